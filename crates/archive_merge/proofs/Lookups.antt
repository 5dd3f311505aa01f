-- What tables and lists are looked up for.
use Rattle.std.proofs.Common.{◌≡◌, ◌≢◌, inl, inr, ℕ, zero, suc, ℤ, ◌+◌, ◌≤◌, ◌<◌, ◌⊎◌, get_or, Bool, true, false, ◌||◌, ◌==◌, cond, nat_eq, nat_lt, List, [], ◌∷◌, ◌++◌, length, take, drop, refl, sym, ap, ◌∙◌, subst, arith, w32, to_z, of_z, add-one, append_assoc, Option, Some, None}
use Rattle.std.specs.Prelude.{filter, is_none, is_some, option_map, option_to_list, FitsSigned, MatchOption}
use Rattle.std.specs.BTreeMap.{is_at}
use Rattle.std.specs.BTreeSet.{BTreeSet, Updates, contains}
use Rattle.std.specs.List.{list_all, list_any, slice_get}
use Rattle.std.specs.Ordering.{int_cmp, int_eq, is_eq, nat_cmp}
use Rattle.std.specs.declared.cmp.Ordering.TheVariants.{Less, Equal, Greater}
use Rattle.std.proofs.lemmas.Bool.{eqb-true, ltb-true}
use Rattle.std.proofs.lemmas.Bool.Decides.{Decides-int_eq}
use Rattle.std.proofs.lemmas.Int.{to_z-of_z}
use Rattle.std.proofs.lemmas.List.{drop_all}
use Rattle.std.proofs.lemmas.List.Folds.{list_any-append}
use Rattle.std.proofs.lemmas.Option.{slice_get_cases}
use Rattle.pcp_base.specs.Time.{Moment}
use Rattle.pcp_base.specs.declared.result.Body.{Body}
use Rattle.pcp_base.specs.declared.result.Body.TheVariants.{InPlace, Blocks, Status}
use Rattle.pcp_base.specs.declared.result.ValueSet.{ValueSet}
use Rattle.pcp_model.specs.declared.records.MetaRecord.{MetaRecord}
use Rattle.pcp_model.specs.Described.{HoldsAt}
use Rattle.archive_merge.specs.Facts.{HasNumbers, has_domain, kept_of, listed_where, pairs_in}
use Rattle.archive_merge.specs.Merging.{Sees, has_metric}
use Rattle.archive_merge.specs.Naming.{Pairs, differ, is_numbered, name_in, pairs_at, renames}
use Rattle.archive_merge.proofs.Held.{held_is_found, nothing_held}

-- ---- numbers in tables

pub same_key : (a b : ℕ) → is_eq (nat_cmp a b) ≡ nat_eq a b
same_key a b = by (nat_lt a b) refl (nat_eq a b) refl
  where
    by : (c : Bool) → nat_lt a b ≡ c → (d : Bool) → nat_eq a b ≡ d → is_eq (cond c Less (cond d Equal Greater)) ≡ d
    by true lt true e = absurd (omega (arith, ltb-true a b lt, eqb-true a b e))
    by true lt false e = refl
    by false lt true e = refl
    by false lt false e = refl

pub has_keys : (indom : ℕ) (keys : List ℕ) → list_any (is_at (nat_cmp indom)) keys ≡ has_domain indom keys
has_keys indom [] = refl
has_keys indom (k ∷ keys) =
    ap (λ (b : Bool). b || list_any (is_at (nat_cmp indom)) keys) (same_key indom k) ∙ ap (λ (b : Bool). nat_eq indom k || b) (has_keys indom keys)

or_last : (b x : Bool) → cond b true x ≡ (x || (b || false))
or_last true true = refl
or_last true false = refl
or_last false true = refl
or_last false false = refl

-- a table with one more
pub sees_more : (old new : BTreeSet ℕ) (sets : List ValueSet) (set : ValueSet) → Updates nat_cmp old new set.pmid true → Sees old sets → Sees new (sets ++ set ∷ [])
sees_more old new sets set u sees pmid =
    u.0 pmid
    ∙ ap (λ (b : Bool). cond b true (contains nat_cmp old pmid)) (same_key set.pmid pmid)
    ∙ ap (λ (x : Bool). cond (nat_eq set.pmid pmid) true x) (sees pmid)
    ∙ or_last (nat_eq set.pmid pmid) (has_metric pmid sets)
    ∙ sym (list_any-append (λ (s : ValueSet). nat_eq s.pmid pmid) sets (set ∷ []))

pub sees_still : (old new : BTreeSet ℕ) (sets : List ValueSet) → new.keys ≡ old.keys → Sees old sets → Sees new sets
sees_still old new sets same sees pmid = ap (λ (keys : List ℕ). list_any (is_at (nat_cmp pmid)) keys) same ∙ sees pmid

-- ---- places in lists

pub get_drop : {X : Type 0} (xs : List X) (i : ℕ) (x : X) → slice_get xs i ≡ Some x → drop i xs ≡ x ∷ drop (suc i) xs
get_drop [] i x e = absurd (cc)
get_drop (y ∷ xs) zero x e = let same : y ≡ x = cc in ap (λ z. z ∷ xs) same
get_drop (y ∷ xs) (suc i) x e = get_drop xs i x e

take_here : {X : Type 0} (xs : List X) (i : ℕ) → take i xs ++ option_to_list (slice_get xs i) ≡ take (suc i) xs
take_here [] zero = refl
take_here [] (suc i) = refl
take_here (x ∷ xs) zero = refl
take_here (x ∷ xs) (suc i) = ap (λ l. x ∷ l) (take_here xs i)

pub take_get : {X : Type 0} (xs : List X) (i : ℕ) → take i xs ++ option_to_list (slice_get xs i) ≡ take (i + 1) xs
take_get xs i = take_here xs i ∙ ap (λ n. take n xs) (sym (add-one i))

past : {X : Type 0} (xs : List X) (i : ℕ) → slice_get xs i ≡ None → drop i xs ≡ []
past {X = X} xs i e = by (slice_get_cases xs i).1
  where
    by : ((x : X) × (i < length xs) × (slice_get xs i ≡ Some x) × (get_or xs i x ≡ x)) ⊎ ((length xs ≤ i) × (slice_get xs i ≡ None)) → drop i xs ≡ []
    by (inl found) = let is = found.2 in absurd (cc)
    by (inr behind) = drop_all i xs behind.0

-- ---- names

not_equal : (a b : ℤ) → a ≢ b → int_eq a b ≡ false
not_equal a b other = by (int_eq a b) refl
  where
    by : (c : Bool) → int_eq a b ≡ c → c ≡ false
    by true e = absurd (other ((Decides-int_eq a b).0 e))
    by false e = refl

module _ (instance : ℤ) (pairs : Pairs) (at : ℕ) where
  pub name_past : slice_get pairs at ≡ None → name_in instance (drop at pairs) ≡ None
  name_past e = ap (name_in instance) (past pairs at e)

  pub name_here : (p : ℤ × List ℕ) → slice_get pairs at ≡ Some p → p.0 ≡ instance → name_in instance (drop at pairs) ≡ Some p.1
  name_here p e same =
      ap (name_in instance) (get_drop pairs at p e) ∙ ap (λ (b : Bool). cond b (Some p.1) (name_in instance (drop (suc at) pairs))) ((Decides-int_eq p.0 instance).1 same)

  pub name_behind : (p : ℤ × List ℕ) → slice_get pairs at ≡ Some p → p.0 ≢ instance → name_in instance (drop (at + 1) pairs) ≡ name_in instance (drop at pairs)
  name_behind p e other =
      ap (λ n. name_in instance (drop n pairs)) (add-one at)
      ∙ sym (ap (name_in instance) (get_drop pairs at p e) ∙ ap (λ (b : Bool). cond b (Some p.1) (name_in instance (drop (suc at) pairs))) (not_equal p.0 instance other))

-- whether it has a name is seen by numbers
pub numbered_none : (instance : ℤ) (o : Option (ℤ × List ℕ)) → option_map (λ p. p.0) o ≡ None → is_numbered instance o ≡ false
numbered_none instance None e = refl
numbered_none instance (Some p) e = absurd (cc)

pub numbered_some : (instance n : ℤ) (o : Option (ℤ × List ℕ)) → option_map (λ p. p.0) o ≡ Some n → is_numbered instance o ≡ int_eq n instance
numbered_some instance n None e = absurd (cc)
numbered_some instance n (Some p) e = let same : p.0 ≡ n = cc in ap (λ (m : ℤ). int_eq m instance) same

pub has_here : (instance : ℤ) (pairs : Pairs) (at : ℕ) → is_numbered instance (slice_get pairs at) ≡ true → is_some (name_in instance (drop at pairs)) ≡ true
has_here instance [] zero e = absurd (cc)
has_here instance [] (suc at) e = absurd (cc)
has_here instance (p ∷ pairs) zero e = ap (λ (b : Bool). is_some (cond b (Some p.1) (name_in instance pairs))) e
has_here instance (p ∷ pairs) (suc at) e = has_here instance pairs at e

has_behind : (instance : ℤ) (pairs : Pairs) (at : ℕ) → is_numbered instance (slice_get pairs at) ≡ false → is_some (name_in instance (drop (suc at) pairs)) ≡ is_some (name_in instance (drop at pairs))
has_behind instance [] zero e = refl
has_behind instance [] (suc at) e = refl
has_behind instance (p ∷ pairs) zero e = sym (ap (λ (b : Bool). is_some (cond b (Some p.1) (name_in instance pairs))) e)
has_behind instance (p ∷ pairs) (suc at) e = has_behind instance pairs at e

pub has_further : (instance : ℤ) (pairs : Pairs) (at : ℕ) → is_numbered instance (slice_get pairs at) ≡ false → is_some (name_in instance (drop (at + 1) pairs)) ≡ is_some (name_in instance (drop at pairs))
has_further instance pairs at e = ap (λ (n : ℕ). is_some (name_in instance (drop n pairs))) (add-one at) ∙ has_behind instance pairs at e

pub held_found : (o : Option Pairs) (records : List MetaRecord) (indom : ℕ) (t : Moment) → MatchOption o ((pairs : Pairs) → HoldsAt records indom t pairs → ⊥) (HoldsAt records indom t) → pairs_in o ≡ pairs_at records indom t
held_found None records indom t none = sym (nothing_held indom t records none)
held_found (Some pairs) records indom t holds = sym (held_is_found indom t records pairs holds)

pub listed_there : (b : Bool) (records : List MetaRecord) (indom : ℕ) (t : Moment) → b ≡ true → listed_where b records indom t ≡ pairs_at records indom t
listed_there b records indom t there = ap (λ (x : Bool). listed_where x records indom t) there

not_zero : (n : ℕ) → (suc n == 0) ≡ false
not_zero n = by (suc n == 0) refl
  where
    by : (b : Bool) → (suc n == 0) ≡ b → b ≡ false
    by true e = let h = eqb-true (suc n) 0 e in absurd (omega (arith, h))
    by false e = refl

-- where no list holds nothing has a name
pub none_named : {T : Type 0} (shown : List (ℤ × T)) → (length shown == 0) ≡ list_all (λ p. is_some (name_in p.0 [])) shown
none_named [] = refl
none_named (p ∷ shown) = not_zero (length shown)

-- equal as words of 32 bits
pub same_number : (a b : ℤ) → FitsSigned w32 a → FitsSigned w32 b → of_z w32 a ≡ of_z w32 b → a ≡ b
same_number a b fits other e = sym (to_z-of_z w32 a fits) ∙ ap (to_z w32) e ∙ to_z-of_z w32 b other

-- ---- lists of both

name_last : (instance : ℤ) (front : Pairs) (p : ℤ × List ℕ) → is_some (name_in instance (front ++ p ∷ [])) ≡ (is_some (name_in instance front) || (int_eq p.0 instance || false))
name_last instance [] p = by (int_eq p.0 instance)
  where
    by : (b : Bool) → is_some (cond b (Some p.1) None) ≡ (b || false)
    by true = refl
    by false = refl
name_last instance (q ∷ front) p = by (int_eq q.0 instance) (name_last instance front p)
  where
    by : (b : Bool) → is_some (name_in instance (front ++ p ∷ [])) ≡ (is_some (name_in instance front) || (int_eq p.0 instance || false))
        → is_some (cond b (Some q.1) (name_in instance (front ++ p ∷ []))) ≡ (is_some (cond b (Some q.1) (name_in instance front)) || (int_eq p.0 instance || false))
    by true h = refl
    by false h = h

pub numbers_more : (old new : BTreeSet ℤ) (front : Pairs) (p : ℤ × List ℕ) → Updates int_cmp old new p.0 true → HasNumbers old front → HasNumbers new (front ++ p ∷ [])
numbers_more old new front p u has instance =
    u.0 instance
    ∙ ap (λ (x : Bool). cond (int_eq p.0 instance) true x) (has instance)
    ∙ or_last (int_eq p.0 instance) (is_some (name_in instance front))
    ∙ sym (name_last instance front p)

module _ (numbers : BTreeSet ℤ) where
  pub kept_none : (o : Option (ℤ × List ℕ)) (p : ℤ × List ℕ) → o ≡ Some p → contains int_cmp numbers p.0 ≡ true → kept_of numbers o ≡ []
  kept_none o p is there = ap (kept_of numbers) is ∙ ap (λ (b : Bool). cond {A = Pairs} b [] (p ∷ [])) there

  pub kept_one : (o : Option (ℤ × List ℕ)) (p : ℤ × List ℕ) → o ≡ Some p → contains int_cmp numbers p.0 ≡ false → kept_of numbers o ≡ p ∷ []
  kept_one o p is there = ap (kept_of numbers) is ∙ ap (λ (b : Bool). cond {A = Pairs} b [] (p ∷ [])) there

  module _ (first : Pairs) (has : HasNumbers numbers first) where
    abbrev Other : ℤ × List ℕ → Bool
    Other p = is_none (name_in p.0 first)

    one_kept : (p : ℤ × List ℕ) (pairs : Pairs) → kept_of numbers (Some p) ++ filter Other pairs ≡ filter Other (p ∷ pairs)
    one_kept p pairs = by (contains int_cmp numbers p.0) (name_in p.0 first) (has p.0)
      where
        by : (b : Bool) (o : Option (List ℕ)) → b ≡ is_some o → cond {A = Pairs} b [] (p ∷ []) ++ filter Other pairs ≡ cond (is_none o) (p ∷ filter Other pairs) (filter Other pairs)
        by true None e = absurd (cc)
        by true (Some n) e = refl
        by false None e = refl
        by false (Some n) e = absurd (cc)

    kept_here : (pairs : Pairs) (at : ℕ) → kept_of numbers (slice_get pairs at) ++ filter Other (drop (suc at) pairs) ≡ filter Other (drop at pairs)
    kept_here [] zero = refl
    kept_here [] (suc at) = refl
    kept_here (p ∷ pairs) zero = one_kept p pairs
    kept_here (p ∷ pairs) (suc at) = kept_here pairs at

    -- one more pair
    pub others_kept : (made now all pairs : Pairs) (at : ℕ) → made ++ filter Other (drop at pairs) ≡ all → now ≡ made ++ kept_of numbers (slice_get pairs at) → now ++ filter Other (drop (at + 1) pairs) ≡ all
    others_kept made now all pairs at before is =
        ap (λ (l : Pairs). l ++ filter Other (drop (at + 1) pairs)) is
        ∙ append_assoc made (kept_of numbers (slice_get pairs at)) (filter Other (drop (at + 1) pairs))
        ∙ ap (λ (n : ℕ). made ++ (kept_of numbers (slice_get pairs at) ++ filter Other (drop n pairs))) (add-one at)
        ∙ ap (λ (l : Pairs). made ++ l) (kept_here pairs at)
        ∙ before

-- one more number, of the pair at a place
pub numbers_step : (old new : BTreeSet ℤ) (pairs : Pairs) (at : ℕ) (p : ℤ × List ℕ) → slice_get pairs at ≡ Some p → Updates int_cmp old new p.0 true → HasNumbers old (take at pairs) → HasNumbers new (take (at + 1) pairs)
numbers_step old new pairs at p is u has =
    subst (HasNumbers new) (ap (λ (o : Option (ℤ × List ℕ)). take at pairs ++ option_to_list o) (sym is) ∙ take_get pairs at) (numbers_more old new (take at pairs) p u has)

-- nothing shown has a name in another list, and so none another one
pub renames_none : {T : Type 0} (first : Pairs) (shown : List (ℤ × T)) → list_any (λ p. differ (name_in p.0 first) (name_in p.0 [])) shown ≡ false
renames_none first [] = refl
renames_none first (p ∷ shown) = by (name_in p.0 first) (renames_none first shown)
  where
    by : (o : Option (List ℕ)) → list_any (λ q. differ (name_in q.0 first) (name_in q.0 [])) shown ≡ false → (differ o None || list_any (λ q. differ (name_in q.0 first) (name_in q.0 [])) shown) ≡ false
    by None more = more
    by (Some n) more = more

renames_nothing : {T : Type 0} (second : Pairs) (shown : List (ℤ × T)) → list_any (λ p. differ (name_in p.0 []) (name_in p.0 second)) shown ≡ false
renames_nothing second [] = refl
renames_nothing second (p ∷ shown) = renames_nothing second shown

pub no_first : (second : Pairs) (body : Body) → renames [] second body ≡ false
no_first second (InPlace shown) = renames_nothing second shown
no_first second (Blocks shown) = renames_nothing second shown
no_first second (Status n) = refl

pub no_second : (first : Pairs) (body : Body) → renames first [] body ≡ false
no_second first (InPlace shown) = renames_none first shown
no_second first (Blocks shown) = renames_none first shown
no_second first (Status n) = refl
