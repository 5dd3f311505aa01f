-- Of each metric its first set stands, and at a stamp the sets of its results in their order.
use Rattle.std.proofs.Common.{◌≡◌, ◌≢◌, ℕ, Bool, true, false, not, ◌&&◌, ◌||◌, cond, nat_eq, List, [], ◌∷◌, ◌++◌, refl, sym, ap, ap₂, ◌∙◌, subst, append-nil, append_assoc}
use Rattle.std.specs.Prelude.{filter}
use Rattle.std.proofs.lemmas.Bool.{eqb-true}
use Rattle.std.proofs.lemmas.List.Folds.{list_any-append}
use Rattle.std.proofs.lemmas.List.Sums.{fold-append}
use Rattle.pcp_base.specs.Time.{Moment, microseconds}
use Rattle.pcp_base.specs.declared.result.PmResult.{PmResult}
use Rattle.pcp_base.specs.declared.result.ValueSet.{ValueSet}
use Rattle.archive_merge.specs.Laws.{AreInOrder, first_of_each, is_other}
use Rattle.archive_merge.specs.Merging.{has_metric, is_at, sets_at, sets_of_both, sets_of_first, with_set, with_sets}
use Rattle.archive_merge.proofs.Steps.{one_at}

module _ (test : ValueSet → Bool) where
  keeps : (x : ValueSet) (xs : List ValueSet) → test x ≡ true → filter test (x ∷ xs) ≡ x ∷ filter test xs
  keeps x xs e = ap (λ (c : Bool). cond c (x ∷ filter test xs) (filter test xs)) e

  drops : (x : ValueSet) (xs : List ValueSet) → test x ≡ false → filter test (x ∷ xs) ≡ filter test xs
  drops x xs e = ap (λ (c : Bool). cond c (x ∷ filter test xs) (filter test xs)) e

-- what passes two tests passes one of both
both_tests : (p q r : ValueSet → Bool) → ((x : ValueSet) → r x ≡ (q x && p x)) → (xs : List ValueSet) → filter p (filter q xs) ≡ filter r xs
both_tests p q r same [] = refl
both_tests p q r same (x ∷ xs) = by (q x) refl (p x) refl (both_tests p q r same xs)
  where
    by : (c : Bool) → q x ≡ c → (d : Bool) → p x ≡ d → filter p (filter q xs) ≡ filter r xs → filter p (cond c (x ∷ filter q xs) (filter q xs)) ≡ filter r (x ∷ xs)
    by true e true f more = keeps p x (filter q xs) f ∙ ap (λ l. x ∷ l) more ∙ sym (keeps r x xs (same x ∙ ap₂ (λ a b. a && b) e f))
    by true e false f more = drops p x (filter q xs) f ∙ more ∙ sym (drops r x xs (same x ∙ ap₂ (λ a b. a && b) e f))
    by false e d f more = more ∙ sym (drops r x xs (same x ∙ ap (λ a. a && p x) e))

abbrev is_fresh : List ValueSet → ValueSet → Bool
is_fresh front x = not (has_metric x.pmid front)

not_or : (a b : Bool) → not (a || (b || false)) ≡ (not b && not a)
not_or true true = refl
not_or true false = refl
not_or false true = refl
not_or false false = refl

-- another one's metric
fresh_with : (s : ValueSet) (front : List ValueSet) (x : ValueSet) → is_fresh (front ++ s ∷ []) x ≡ (is_other s x && is_fresh front x)
fresh_with s front x = ap not (list_any-append (λ (y : ValueSet). nat_eq y.pmid x.pmid) front (s ∷ [])) ∙ not_or (has_metric x.pmid front) (nat_eq s.pmid x.pmid)

fresh_still : (s : ValueSet) (front : List ValueSet) → has_metric s.pmid front ≡ true → (x : ValueSet) → is_fresh front x ≡ (is_other s x && is_fresh front x)
fresh_still s front e x = by (nat_eq s.pmid x.pmid) refl
  where
    by : (c : Bool) → nat_eq s.pmid x.pmid ≡ c → is_fresh front x ≡ (not c && is_fresh front x)
    by true f = ap not (subst (λ (k : ℕ). has_metric k front ≡ true) (eqb-true s.pmid x.pmid f) e)
    by false f = refl

firsts_behind : (front more : List ValueSet) → with_sets front more ≡ front ++ filter (is_fresh front) (first_of_each more)
firsts_behind front [] = sym (append-nil front)
firsts_behind front (s ∷ more) = by (has_metric s.pmid front) refl (firsts_behind front more) (firsts_behind (front ++ s ∷ []) more)
  where
    by : (c : Bool) → has_metric s.pmid front ≡ c → with_sets front more ≡ front ++ filter (is_fresh front) (first_of_each more)
        → with_sets (front ++ s ∷ []) more ≡ (front ++ s ∷ []) ++ filter (is_fresh (front ++ s ∷ [])) (first_of_each more) → with_sets front (s ∷ more) ≡ front ++ filter (is_fresh front) (first_of_each (s ∷ more))
    by true e here there =
        ap (λ (b : Bool). with_sets (cond b front (front ++ s ∷ [])) more) e ∙ here
        ∙ ap (λ (l : List ValueSet). front ++ l) (sym (drops (is_fresh front) s (filter (is_other s) (first_of_each more)) (ap not e) ∙ both_tests (is_fresh front) (is_other s) (is_fresh front) (fresh_still s front e) (first_of_each more)))
    by false e here there =
        ap (λ (b : Bool). with_sets (cond b front (front ++ s ∷ [])) more) e ∙ there ∙ append_assoc front (s ∷ []) (filter (is_fresh (front ++ s ∷ [])) (first_of_each more))
        ∙ ap (λ (l : List ValueSet). front ++ s ∷ l) (sym (both_tests (is_fresh front) (is_other s) (is_fresh (front ++ s ∷ [])) (fresh_with s front) (first_of_each more)))
        ∙ ap (λ (l : List ValueSet). front ++ l) (sym (keeps (is_fresh front) s (filter (is_other s) (first_of_each more)) (ap not e)))

all_fresh : (sets : List ValueSet) → filter (is_fresh []) sets ≡ sets
all_fresh [] = refl
all_fresh (s ∷ sets) = ap (λ (l : List ValueSet). s ∷ l) (all_fresh sets)

pub firsts_are : (sets : List ValueSet) → sets_of_first sets ≡ first_of_each sets
firsts_are sets = firsts_behind [] sets ∙ all_fresh (first_of_each sets)

pub all_are : (ours theirs : List ValueSet) → sets_of_both ours theirs ≡ first_of_each (ours ++ theirs)
all_are ours theirs = sym (fold-append with_set [] ours theirs) ∙ firsts_are (ours ++ theirs)

-- ---- the sets at a stamp

module _ (t : Moment) where
  joined : (xs ys : List PmResult) → sets_at t (xs ++ ys) ≡ sets_at t xs ++ sets_at t ys
  joined [] ys = refl
  joined (r ∷ xs) ys = by (is_at t r) (joined xs ys)
    where
      by : (c : Bool) → sets_at t (xs ++ ys) ≡ sets_at t xs ++ sets_at t ys → cond c (r.sets ++ sets_at t (xs ++ ys)) (sets_at t (xs ++ ys)) ≡ cond c (r.sets ++ sets_at t xs) (sets_at t xs) ++ sets_at t ys
      by true more = ap (λ (l : List ValueSet). r.sets ++ l) more ∙ sym (append_assoc r.sets (sets_at t xs) (sets_at t ys))
      by false more = more

  none_of : (r : PmResult) → microseconds r.stamp ≢ microseconds t → sets_at t (r ∷ []) ≡ []
  none_of r other = by (is_at t r) refl
    where
      by : (c : Bool) → is_at t r ≡ c → cond c (r.sets ++ []) [] ≡ []
      by true e = absurd (other (eqb-true (microseconds r.stamp) (microseconds t) e))
      by false e = refl

  pub in_order : (xs ys : List PmResult) (r : PmResult) → AreInOrder t xs ys r
  in_order xs ys r = record { joined = joined xs ys; its = λ same. one_at t r [] same ∙ append-nil r.sets; others = none_of r }
