-- Where nothing is lacking the facts tell enough of the sets.
use Rattle.std.proofs.Common.{◌≡◌, ◌≢◌, ◌⊎◌, inl, inr, ℕ, zero, suc, ℤ, Bool, true, false, not, ◌&&◌, ◌||◌, ◌==◌, cond, nat_eq, List, [], ◌∷◌, ◌++◌, map, refl, sym, ap, ◌∙◌, subst, arith, append-nil, append_assoc, Option, Some, None}
use Rattle.std.specs.Prelude.{filter, fold, is_none, is_some, option_to_list, IsTrue}
use Rattle.std.specs.BTreeSet.{insert_key}
use Rattle.std.specs.List.{AllByRecursion, list_all}
use Rattle.std.specs.Ordering.{int_eq, is_eq, match_ordering, nat_cmp}
use Rattle.std.specs.declared.cmp.Ordering.{Ordering}
use Rattle.std.specs.declared.cmp.Ordering.TheVariants.{Less, Equal, Greater}
use Rattle.std.proofs.lemmas.Bool.{eqb-true, eqb-false, eq-eqb}
use Rattle.std.proofs.lemmas.Bool.Decides.{Decides-int_eq}
use Rattle.pcp_base.specs.Ids.{null_indom}
use Rattle.pcp_base.specs.Time.{Moment}
use Rattle.pcp_base.specs.declared.desc.Desc.{Desc}
use Rattle.pcp_base.specs.declared.result.Body.{Body}
use Rattle.pcp_base.specs.declared.result.Body.TheVariants.{InPlace, Blocks, Status}
use Rattle.pcp_base.specs.declared.result.ValueSet.{ValueSet}
use Rattle.pcp_model.specs.declared.records.MetaRecord.{MetaRecord}
use Rattle.pcp_model.specs.declared.records.MetaRecord.TheVariants.{Description, Domain, Other}
use Rattle.pcp_model.proofs.Lists.{each-append}
use Rattle.archive_meta.specs.declared.facts.Facts.{Facts}
use Rattle.archive_meta.specs.Enough.{AreEnough, AreListed, IsListed, IsTold}
use Rattle.archive_meta.specs.Facts.{fact_of, has_values, listed_of}
use Rattle.archive_meta.specs.Said.{desc_of, description_of, names_of}
use Rattle.archive_merge.specs.Facts.{both_lists, clash_of, domains_used, fact_of_set, facts_about, facts_between, facts_of, first_clash, first_lacking, has_domain, is_described, is_lacking, lack_in, listed_where, misfit_between, misfit_of, or_else, with_domain_of, with_used}
use Rattle.archive_merge.specs.Merging.{IsNew, has_metric, sets_of_both, sets_of_first, sets_of_second}
use Rattle.archive_merge.specs.Naming.{Pairs, fact_about, fact_from, name_in, names_all, pairs_at}
use Rattle.archive_merge.proofs.Grown.{both_are, second_new}
use Rattle.archive_merge.proofs.Lookups.{same_key}

-- a set stands among sets
abbrev pub Stands : ValueSet → List ValueSet → Type 0
Stands set [] = ⊥
Stands set (x ∷ sets) = (x ≡ set) ⊎ Stands set sets

true_so : (set : ValueSet) → IsTrue (has_values set.body) → has_values set.body ≡ true
true_so set v = v

-- ---- facts about metrics

fact_key : (records : List MetaRecord) (pmid : ℕ) (f : Desc × List ℕ) → fact_about records pmid ≡ Some f → f.0.pmid ≡ pmid
fact_key [] pmid f e = absurd (cc)
fact_key (Domain t i pairs ∷ records) pmid f e = fact_key records pmid f e
fact_key (Other ∷ records) pmid f e = fact_key records pmid f e
fact_key (Description d names ∷ records) pmid f e = by (nat_eq pmid d.pmid) refl names e (fact_key records pmid f)
  where
    by : (c : Bool) → nat_eq pmid d.pmid ≡ c → (ns : List (List ℕ))
        → fact_from (desc_of (cond c (Some (Description d ns)) (description_of pmid records))) (names_of (cond c (Some (Description d ns)) (description_of pmid records))) ≡ Some f
        → (fact_about records pmid ≡ Some f → f.0.pmid ≡ pmid) → f.0.pmid ≡ pmid
    by true k [] h more = absurd (cc)
    by true k (n ∷ ns) h more = let same : (d, n) ≡ f = cc in sym (ap (λ (x : Desc × List ℕ). x.0.pmid) same) ∙ sym (eqb-true pmid d.pmid k)
    by false k ns h more = more h

pub flipped : (a b : ℕ) → nat_eq a b ≡ false → nat_eq b a ≡ false
flipped a b e = by (nat_eq b a) refl
  where
    by : (c : Bool) → nat_eq b a ≡ c → c ≡ false
    by true f = absurd (eqb-false a b e (sym (eqb-true b a f)))
    by false f = refl

module _ (records : List MetaRecord) where
  -- the fact of a set with values
  one_fact : (set : ValueSet) (f : Desc × List ℕ) → has_values set.body ≡ true → fact_about records set.pmid ≡ Some f → fact_of_set records set ≡ f ∷ []
  one_fact set f v e =
      ap (λ (b : Bool). cond {A = List (Desc × List ℕ)} b (option_to_list (fact_about records set.pmid)) []) v ∙ ap option_to_list e

  fact_here : (set : ValueSet) (f : Desc × List ℕ) (rest : List (Desc × List ℕ)) → has_values set.body ≡ true → fact_about records set.pmid ≡ Some f → fact_of (fact_of_set records set ++ rest) set.pmid ≡ Some f
  fact_here set f rest v e =
      ap (λ (l : List (Desc × List ℕ)). fact_of (l ++ rest) set.pmid) (one_fact set f v e)
      ∙ ap (λ (b : Bool). cond b (Some f) (fact_of rest set.pmid)) (eq-eqb f.0.pmid set.pmid (fact_key records set.pmid f e))

  -- of another metric's set nothing is found
  fact_past : (x : ValueSet) (rest : List (Desc × List ℕ)) (k : ℕ) → nat_eq x.pmid k ≡ false → fact_of (fact_of_set records x ++ rest) k ≡ fact_of rest k
  fact_past x rest k other = by (has_values x.body) refl (fact_about records x.pmid) refl
    where
      by : (c : Bool) → has_values x.body ≡ c → (o : Option (Desc × List ℕ)) → fact_about records x.pmid ≡ o → fact_of (cond {A = List (Desc × List ℕ)} c (option_to_list o) [] ++ rest) k ≡ fact_of rest k
      by true v None e = refl
      by true v (Some g) e = ap (λ (b : Bool). cond b (Some g) (fact_of rest k)) (subst (λ (n : ℕ). nat_eq n k ≡ false) (sym (fact_key records x.pmid g e)) other)
      by false v o e = refl

  fact_on : (x : ValueSet) (rest : List (Desc × List ℕ)) (k : ℕ) (f : Desc × List ℕ) → fact_about records k ≡ Some f → fact_of rest k ≡ Some f → fact_of (fact_of_set records x ++ rest) k ≡ Some f
  fact_on x rest k f e more = by (nat_eq x.pmid k) refl (has_values x.body) refl
    where
      by : (c : Bool) → nat_eq x.pmid k ≡ c → (d : Bool) → has_values x.body ≡ d → fact_of (fact_of_set records x ++ rest) k ≡ Some f
      by false other d v = fact_past x rest k other ∙ more
      by true same true v =
          let is : x.pmid ≡ k = eqb-true x.pmid k same in
          subst (λ (n : ℕ). fact_of (fact_of_set records x ++ rest) n ≡ Some f) is (fact_here x f rest v (ap (fact_about records) is ∙ e))
      by true same false v = ap (λ (b : Bool). fact_of (cond {A = List (Desc × List ℕ)} b (option_to_list (fact_about records x.pmid)) [] ++ rest) k) v ∙ more

  pub found_here : (sets : List ValueSet) (rest : List (Desc × List ℕ)) (set : ValueSet) (f : Desc × List ℕ) → Stands set sets → has_values set.body ≡ true → fact_about records set.pmid ≡ Some f
      → fact_of (facts_about records sets ++ rest) set.pmid ≡ Some f
  found_here [] rest set f stands v e = absurd stands
  found_here (x ∷ sets) rest set f (inl is) v e =
      ap (λ (l : List (Desc × List ℕ)). fact_of l set.pmid) (append_assoc (fact_of_set records x) (facts_about records sets) rest)
      ∙ subst (λ (s : ValueSet). fact_of (fact_of_set records s ++ (facts_about records sets ++ rest)) set.pmid ≡ Some f) (sym is) (fact_here set f (facts_about records sets ++ rest) v e)
  found_here (x ∷ sets) rest set f (inr more) v e =
      ap (λ (l : List (Desc × List ℕ)). fact_of l set.pmid) (append_assoc (fact_of_set records x) (facts_about records sets) rest)
      ∙ fact_on x (facts_about records sets ++ rest) set.pmid f e (found_here sets rest set f more v e)

  pub found_past : (sets : List ValueSet) (rest : List (Desc × List ℕ)) (k : ℕ) → has_metric k sets ≡ false → fact_of (facts_about records sets ++ rest) k ≡ fact_of rest k
  found_past [] rest k none = refl
  found_past (x ∷ sets) rest k none = by (nat_eq x.pmid k) refl none (found_past sets rest k)
    where
      by : (c : Bool) → nat_eq x.pmid k ≡ c → (c || has_metric k sets) ≡ false → (has_metric k sets ≡ false → fact_of (facts_about records sets ++ rest) k ≡ fact_of rest k) → fact_of (facts_about records (x ∷ sets) ++ rest) k ≡ fact_of rest k
      by true same h more = absurd (cc)
      by false other h more =
          ap (λ (l : List (Desc × List ℕ)). fact_of l k) (append_assoc (fact_of_set records x) (facts_about records sets) rest)
          ∙ fact_past x (facts_about records sets ++ rest) k other ∙ more h

  -- ---- nothing is lacking

  module _ (t : Moment) where
    none_lacking : (sets : List ValueSet) (set : ValueSet) → first_lacking records t sets ≡ None → Stands set sets → is_lacking records t set ≡ false
    none_lacking [] set none stands = absurd stands
    none_lacking (x ∷ sets) set none stands = by (is_lacking records t x) refl none stands (none_lacking sets set)
      where
        by : (c : Bool) → is_lacking records t x ≡ c → cond c (Some x.pmid) (first_lacking records t sets) ≡ None → Stands set (x ∷ sets) → (first_lacking records t sets ≡ None → Stands set sets → is_lacking records t set ≡ false) → is_lacking records t set ≡ false
        by true e h st more = absurd (cc)
        by false e h (inl is) more = subst (λ (s : ValueSet). is_lacking records t s ≡ false) is e
        by false e h (inr st) more = more h st

    pub record IsGood (set : ValueSet) : Type 0 where
      pub fact : Desc × List ℕ
      pub found : fact_about records set.pmid ≡ Some fact
      pub named : (fact.0.indom ≡ null_indom) ⊎ ((fact.0.indom ≢ null_indom) × (names_all (pairs_at records fact.0.indom t) set.body ≡ true))

    pub good : (set : ValueSet) → has_values set.body ≡ true → is_lacking records t set ≡ false → IsGood set
    good set v none = by (fact_about records set.pmid) refl (all_there (has_values set.body) (is_described records t set (fact_about records set.pmid)) v none)
      where
        all_there : (c d : Bool) → c ≡ true → (c && not d) ≡ false → d ≡ true
        all_there true true v n = refl
        all_there true false v n = absurd (cc)
        all_there false d v n = absurd (cc)

        by : (o : Option (Desc × List ℕ)) → fact_about records set.pmid ≡ o → is_described records t set o ≡ true → IsGood set
        by None e h = absurd (cc)
        by (Some f) e h = record { fact = f; found = e; named = one (f.0.indom == null_indom) refl h }
          where
            one : (c : Bool) → (f.0.indom == null_indom) ≡ c → (c || names_all (pairs_at records f.0.indom t) set.body) ≡ true → (f.0.indom ≡ null_indom) ⊎ ((f.0.indom ≢ null_indom) × (names_all (pairs_at records f.0.indom t) set.body ≡ true))
            one true k g = inl (eqb-true f.0.indom null_indom k)
            one false k g = inr (eqb-false f.0.indom null_indom k, g)

-- ---- domains

pub or_true : (b : Bool) → (b || true) ≡ true
or_true true = refl
or_true false = refl

has_inserted : (k : ℕ) (ds : List ℕ) → has_domain k (insert_key nat_cmp ds k) ≡ true
has_inserted k [] = ap (λ (b : Bool). b || false) (eq-eqb k k refl)
has_inserted k (x ∷ ds) = by (nat_cmp k x) refl (has_inserted k ds)
  where
    by : (o : Ordering) → nat_cmp k x ≡ o → has_domain k (insert_key nat_cmp ds k) ≡ true → has_domain k (match_ordering o (k ∷ x ∷ ds) (x ∷ ds) (x ∷ insert_key nat_cmp ds k)) ≡ true
    by Less e more = ap (λ (b : Bool). b || has_domain k (x ∷ ds)) (eq-eqb k k refl)
    by Equal e more = ap (λ (b : Bool). b || has_domain k ds) (sym (same_key k x) ∙ ap is_eq e)
    by Greater e more = ap (λ (b : Bool). nat_eq k x || b) more ∙ or_true (nat_eq k x)

has_still : (q k : ℕ) (ds : List ℕ) → has_domain q ds ≡ true → has_domain q (insert_key nat_cmp ds k) ≡ true
has_still q k [] h = absurd (cc)
has_still q k (x ∷ ds) h = by (nat_cmp k x) (has_still q k ds)
  where
    by : (o : Ordering) → (has_domain q ds ≡ true → has_domain q (insert_key nat_cmp ds k) ≡ true) → has_domain q (match_ordering o (k ∷ x ∷ ds) (x ∷ ds) (x ∷ insert_key nat_cmp ds k)) ≡ true
    by Less more = ap (λ (b : Bool). nat_eq q k || b) h ∙ or_true (nat_eq q k)
    by Equal more = h
    by Greater more = one (nat_eq q x) h
      where
        one : (c : Bool) → (c || has_domain q ds) ≡ true → (c || has_domain q (insert_key nat_cmp ds k)) ≡ true
        one true g = refl
        one false g = more g

module _ (records : List MetaRecord) where
  kept_with : (q : ℕ) (o : Option (Desc × List ℕ)) (ds : List ℕ) → has_domain q ds ≡ true → has_domain q (with_domain_of ds o) ≡ true
  kept_with q None ds h = h
  kept_with q (Some f) ds h = by (f.0.indom == null_indom)
    where
      by : (c : Bool) → has_domain q (cond c ds (insert_key nat_cmp ds f.0.indom)) ≡ true
      by true = h
      by false = has_still q f.0.indom ds h

  kept_one : (q : ℕ) (x : ValueSet) (ds : List ℕ) → has_domain q ds ≡ true → has_domain q (with_used records ds x) ≡ true
  kept_one q x ds h = by (has_values x.body)
    where
      by : (c : Bool) → has_domain q (cond c (with_domain_of ds (fact_about records x.pmid)) ds) ≡ true
      by true = kept_with q (fact_about records x.pmid) ds h
      by false = h

  pub kept_all : (q : ℕ) (sets : List ValueSet) (ds : List ℕ) → has_domain q ds ≡ true → has_domain q (fold (with_used records) ds sets) ≡ true
  kept_all q [] ds h = h
  kept_all q (x ∷ sets) ds h = kept_all q sets (with_used records ds x) (kept_one q x ds h)

  used_one : (set : ValueSet) (f : Desc × List ℕ) (ds : List ℕ) → has_values set.body ≡ true → fact_about records set.pmid ≡ Some f → f.0.indom ≢ null_indom → has_domain f.0.indom (with_used records ds set) ≡ true
  used_one set f ds v e apart =
      ap (λ (b : Bool). has_domain f.0.indom (cond b (with_domain_of ds (fact_about records set.pmid)) ds)) v
      ∙ ap (λ (o : Option (Desc × List ℕ)). has_domain f.0.indom (with_domain_of ds o)) e
      ∙ by (f.0.indom == null_indom) refl
    where
      by : (c : Bool) → (f.0.indom == null_indom) ≡ c → has_domain f.0.indom (cond c ds (insert_key nat_cmp ds f.0.indom)) ≡ true
      by true k = absurd (apart (eqb-true f.0.indom null_indom k))
      by false k = has_inserted f.0.indom ds

  pub used : (sets : List ValueSet) (set : ValueSet) (f : Desc × List ℕ) (ds : List ℕ) → Stands set sets → has_values set.body ≡ true → fact_about records set.pmid ≡ Some f → f.0.indom ≢ null_indom
      → has_domain f.0.indom (fold (with_used records) ds sets) ≡ true
  used [] set f ds stands v e apart = absurd stands
  used (x ∷ sets) set f ds (inl is) v e apart =
      kept_all f.0.indom sets (with_used records ds x) (subst (λ (s : ValueSet). has_domain f.0.indom (with_used records ds s) ≡ true) (sym is) (used_one set f ds v e apart))
  used (x ∷ sets) set f ds (inr more) v e apart = used sets set f (with_used records ds x) more v e apart

pub listed_found : (make : ℕ → Pairs) (k : ℕ) (all : List ℕ) → has_domain k all ≡ true → listed_of (map (λ (d : ℕ). (d, make d)) all) k ≡ Some (k, make k)
listed_found make k [] h = absurd (cc)
listed_found make k (d ∷ all) h = by (nat_eq d k) refl (listed_found make k all)
  where
    by : (c : Bool) → nat_eq d k ≡ c → (has_domain k all ≡ true → listed_of (map (λ (e : ℕ). (e, make e)) all) k ≡ Some (k, make k)) → cond c (Some (d, make d)) (listed_of (map (λ (e : ℕ). (e, make e)) all) k) ≡ Some (k, make k)
    by true e more = ap (λ (n : ℕ). Some (n, make n)) (eqb-true d k e)
    by false e more = more (sym (ap (λ (b : Bool). b || has_domain k all) (flipped d k e)) ∙ h)

-- ---- instances

module _ (i : ℤ) where
  name_stands : (pairs : Pairs) → is_some (name_in i pairs) ≡ true → IsListed pairs i
  name_stands [] h = absurd (cc)
  name_stands (p ∷ pairs) h = by (int_eq p.0 i) refl h (name_stands pairs)
    where
      by : (c : Bool) → int_eq p.0 i ≡ c → is_some (cond c (Some p.1) (name_in i pairs)) ≡ true → (is_some (name_in i pairs) ≡ true → IsListed pairs i) → IsListed (p ∷ pairs) i
      by true e g more = (p.1, (zero, omega arith, ap (λ (n : ℤ). (n, p.1)) ((Decides-int_eq p.0 i).0 e)))
      by false e g more = let l = more g in let below = l.1.1 in (l.0, (suc l.1.0, omega arith, l.1.2))

  name_front : (a rest : Pairs) → is_some (name_in i a) ≡ true → is_some (name_in i (a ++ rest)) ≡ true
  name_front [] rest h = absurd (cc)
  name_front (p ∷ a) rest h = by (int_eq p.0 i) h (name_front a rest)
    where
      by : (c : Bool) → is_some (cond c (Some p.1) (name_in i a)) ≡ true → (is_some (name_in i a) ≡ true → is_some (name_in i (a ++ rest)) ≡ true) → is_some (cond c (Some p.1) (name_in i (a ++ rest))) ≡ true
      by true g more = refl
      by false g more = more g

  name_rest : (a rest : Pairs) → is_some (name_in i a) ≡ false → name_in i (a ++ rest) ≡ name_in i rest
  name_rest [] rest h = refl
  name_rest (p ∷ a) rest h = by (int_eq p.0 i) h (name_rest a rest)
    where
      by : (c : Bool) → is_some (cond c (Some p.1) (name_in i a)) ≡ false → (is_some (name_in i a) ≡ false → name_in i (a ++ rest) ≡ name_in i rest) → cond c (Some p.1) (name_in i (a ++ rest)) ≡ name_in i rest
      by true g more = absurd (cc)
      by false g more = more g

  name_kept : (a b : Pairs) → is_some (name_in i a) ≡ false → name_in i (filter (λ p. is_none (name_in p.0 a)) b) ≡ name_in i b
  name_kept a [] h = refl
  name_kept a (p ∷ b) h = by (int_eq p.0 i) refl (is_some (name_in p.0 a)) refl (name_kept a b h)
    where
      by : (c : Bool) → int_eq p.0 i ≡ c → (d : Bool) → is_some (name_in p.0 a) ≡ d → name_in i (filter (λ q. is_none (name_in q.0 a)) b) ≡ name_in i b
          → name_in i (cond (not d) (p ∷ filter (λ q. is_none (name_in q.0 a)) b) (filter (λ q. is_none (name_in q.0 a)) b)) ≡ cond c (Some p.1) (name_in i b)
      by true e true f more =
          let same : p.0 ≡ i = (Decides-int_eq p.0 i).0 e in
          let none : is_some (name_in p.0 a) ≡ false = subst (λ (n : ℤ). is_some (name_in n a) ≡ false) (sym same) h in absurd (cc)
      by true e false f more = ap (λ (x : Bool). cond x (Some p.1) (name_in i (filter (λ q. is_none (name_in q.0 a)) b))) e
      by false e true f more = more
      by false e false f more = ap (λ (x : Bool). cond x (Some p.1) (name_in i (filter (λ q. is_none (name_in q.0 a)) b))) e ∙ more

  in_second : (a b : Pairs) → is_some (name_in i b) ≡ true → is_some (name_in i (both_lists a b)) ≡ true
  in_second a b h = by (is_some (name_in i a)) refl
    where
      by : (c : Bool) → is_some (name_in i a) ≡ c → is_some (name_in i (both_lists a b)) ≡ true
      by true e = name_front a (filter (λ p. is_none (name_in p.0 a)) b) e
      by false e = ap is_some (name_rest a (filter (λ p. is_none (name_in p.0 a)) b) e ∙ name_kept a b e) ∙ h

module _ (from to : Pairs) (goes : (i : ℤ) → is_some (name_in i from) ≡ true → is_some (name_in i to) ≡ true) where
  each_listed : {T : Type 0} (shown : List (ℤ × T)) → list_all (λ p. is_some (name_in p.0 from)) shown ≡ true → AllByRecursion (λ p. IsListed to p.0) shown
  each_listed [] h = tt
  each_listed (p ∷ shown) h = by (is_some (name_in p.0 from)) refl h (each_listed shown)
    where
      by : (c : Bool) → is_some (name_in p.0 from) ≡ c → (c && list_all (λ q. is_some (name_in q.0 from)) shown) ≡ true → (list_all (λ q. is_some (name_in q.0 from)) shown ≡ true → AllByRecursion (λ q. IsListed to q.0) shown) → AllByRecursion (λ q. IsListed to q.0) (p ∷ shown)
      by true e g more = (name_stands p.0 to (goes p.0 e), more g)
      by false e g more = absurd (cc)

  pub all_listed : (body : Body) → names_all from body ≡ true → AreListed to body
  all_listed (InPlace shown) h = each_listed shown h
  all_listed (Blocks shown) h = each_listed shown h
  all_listed (Status n) h = tt

-- ---- the facts are enough

module _ (first second : List MetaRecord) (t : Moment) (ours theirs : List ValueSet) where
  abbrev MadeFacts : Facts
  MadeFacts = facts_between first second t ours theirs

  abbrev Lists : ℕ → Pairs
  Lists d = both_lists (listed_where (has_domain d (domains_used first ours)) first d t) (listed_where (has_domain d (domains_used second theirs)) second d t)

  abbrev All : List ℕ
  All = fold (with_used second) (domains_used first ours) theirs

  listed_so : (k : ℕ) → has_domain k All ≡ true → listed_of MadeFacts.domains k ≡ Some (k, Lists k)
  listed_so k h = listed_found Lists k All h

  there : (b : Bool) (records : List MetaRecord) (d : ℕ) → b ≡ true → listed_where b records d t ≡ pairs_at records d t
  there b records d e = ap (λ (x : Bool). listed_where x records d t) e

  told_first : (set : ValueSet) → Stands set ours → has_values set.body ≡ true → IsGood first t set → IsTold MadeFacts set
  told_first set stands v g = record {
    fact = g.fact;
    found = found_here first ours (facts_about second theirs) set g.fact stands v g.found;
    named = by g.named;
  }
    where
      by : (g.fact.0.indom ≡ null_indom) ⊎ ((g.fact.0.indom ≢ null_indom) × (names_all (pairs_at first g.fact.0.indom t) set.body ≡ true))
          → (g.fact.0.indom ≡ null_indom) ⊎ ((pairs : Pairs) × (listed_of MadeFacts.domains g.fact.0.indom ≡ Some (g.fact.0.indom, pairs)) × AreListed pairs set.body)
      by (inl null) = inl null
      by (inr (apart, all)) =
          let d = g.fact.0.indom in
          let has : has_domain d (domains_used first ours) ≡ true = used first ours set g.fact [] stands v g.found apart in
          let list = listed_where (has_domain d (domains_used second theirs)) second d t in
          inr (
            Lists d,
            listed_so d (kept_all second d theirs (domains_used first ours) has),
            all_listed (pairs_at first d t) (Lists d)
                (λ i h. name_front i (listed_where (has_domain d (domains_used first ours)) first d t) (filter (λ p. is_none (name_in p.0 (listed_where (has_domain d (domains_used first ours)) first d t))) list)
                (subst (λ (l : Pairs). is_some (name_in i l) ≡ true) (sym (there (has_domain d (domains_used first ours)) first d has)) h)) set.body all,
          )

  told_second : (set : ValueSet) → Stands set theirs → IsNew ours set → has_values set.body ≡ true → IsGood second t set → IsTold MadeFacts set
  told_second set stands new v g = record {
    fact = g.fact;
    found = found_past first ours (facts_about second theirs) set.pmid new ∙ sym (ap (λ (l : List (Desc × List ℕ)). fact_of l set.pmid) (append-nil (facts_about second theirs))) ∙ found_here second theirs [] set g.fact stands v g.found;
    named = by g.named;
  }
    where
      by : (g.fact.0.indom ≡ null_indom) ⊎ ((g.fact.0.indom ≢ null_indom) × (names_all (pairs_at second g.fact.0.indom t) set.body ≡ true))
          → (g.fact.0.indom ≡ null_indom) ⊎ ((pairs : Pairs) × (listed_of MadeFacts.domains g.fact.0.indom ≡ Some (g.fact.0.indom, pairs)) × AreListed pairs set.body)
      by (inl null) = inl null
      by (inr (apart, all)) =
          let d = g.fact.0.indom in
          let has : has_domain d (domains_used second theirs) ≡ true = used second theirs set g.fact [] stands v g.found apart in
          let list = listed_where (has_domain d (domains_used first ours)) first d t in
          inr (
            Lists d,
            listed_so d (used second theirs set g.fact (domains_used first ours) stands v g.found apart),
            all_listed (pairs_at second d t) (Lists d)
                (λ i h. in_second i list (listed_where (has_domain d (domains_used second theirs)) second d t)
                (subst (λ (l : Pairs). is_some (name_in i l) ≡ true) (sym (there (has_domain d (domains_used second theirs)) second d has)) h)) set.body all,
          )

  no_first_lack : misfit_between first second t ours theirs ≡ None → first_lacking first t ours ≡ None
  no_first_lack none = by (first_lacking first t ours) refl none
    where
      by : (o : Option ℕ) → first_lacking first t ours ≡ o → or_else (lack_in 1 o) (or_else (lack_in 2 (first_lacking second t theirs)) (clash_of (first_clash first second t (domains_used first ours) theirs))) ≡ None → o ≡ None
      by None e h = refl
      by (Some pmid) e h = absurd (cc)

  no_second_lack : misfit_between first second t ours theirs ≡ None → first_lacking second t theirs ≡ None
  no_second_lack none = by (first_lacking second t theirs) refl (first_lacking first t ours) none
    where
      by : (o : Option ℕ) → first_lacking second t theirs ≡ o → (p : Option ℕ) → or_else (lack_in 1 p) (or_else (lack_in 2 o) (clash_of (first_clash first second t (domains_used first ours) theirs))) ≡ None → o ≡ None
      by None e p h = refl
      by (Some pmid) e None h = absurd (cc)
      by (Some pmid) e (Some q) h = absurd (cc)

  module _ (none : misfit_between first second t ours theirs ≡ None) (new : AllByRecursion (IsNew ours) theirs) where
    of_first : (sets : List ValueSet) → ((set : ValueSet) → Stands set sets → Stands set ours) → AllByRecursion (λ set. IsTrue (has_values set.body) → IsTold MadeFacts set) sets
    of_first [] among = tt
    of_first (x ∷ sets) among =
        (λ v. told_first x (among x (inl refl)) (true_so x v) (good first t x (true_so x v) (none_lacking first t ours x (no_first_lack none) (among x (inl refl)))), of_first sets (λ set st. among set (inr st)))

    of_second : (sets : List ValueSet) → AllByRecursion (IsNew ours) sets → ((set : ValueSet) → Stands set sets → Stands set theirs) → AllByRecursion (λ set. IsTrue (has_values set.body) → IsTold MadeFacts set) sets
    of_second [] fresh among = tt
    of_second (x ∷ sets) fresh among =
        (λ v. told_second x (among x (inl refl)) fresh.0 (true_so x v) (good second t x (true_so x v) (none_lacking second t theirs x (no_second_lack none) (among x (inl refl)))), of_second sets fresh.1 (λ set st. among set (inr st)))

    pub enough : AreEnough MadeFacts (ours ++ theirs)
    enough = each-append (λ set. IsTrue (has_values set.body) → IsTold MadeFacts set) ours theirs (of_first ours (λ set st. st)) (of_second theirs new (λ set st. st))

pub facts_enough : (first second : List MetaRecord) (t : Moment) (ours theirs : List ValueSet) → misfit_of first second t ours theirs ≡ None → AreEnough (facts_of first second t ours theirs) (sets_of_both ours theirs)
facts_enough first second t ours theirs none =
    subst (AreEnough (facts_of first second t ours theirs)) (sym (both_are ours theirs))
    (enough first second t (sets_of_first ours) (sets_of_second ours theirs) none (second_new ours theirs))
