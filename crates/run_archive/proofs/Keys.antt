-- Keys of ordered lists, and what is found under them.
use Rattle.std.proofs.Common.{◌≡◌, ◌⊎◌, inl, inr, ⊎_elim, ℕ, ℤ, Bool, true, false, cond, nat_eq, List, [], ◌∷◌, ◌++◌, map, Some, refl, sym, ap, ◌∙◌, subst, arith}
use Rattle.std.specs.declared.cmp.Ordering.{Ordering}
use Rattle.std.specs.declared.cmp.Ordering.TheVariants.{Less, Equal, Greater}
use Rattle.std.specs.Prelude.{Contains}
use Rattle.std.specs.BTreeMap.{insert_entry}
use Rattle.std.specs.BTreeSet.{insert_key}
use Rattle.std.specs.List.{AllByRecursion, flat_map}
use Rattle.std.specs.Ordering.{nat_cmp, int_cmp, match_ordering}
use Rattle.std.proofs.lemmas.Bool.{eqb-true, eqb-false, eq-eqb}
use Rattle.std.proofs.lemmas.List.Elements.{Contains-append_right}
use Rattle.std.proofs.lemmas.Map.Lookups.{exact_unsigned, exact_signed}
use Rattle.pcp_base.specs.declared.desc.Desc.{Desc}
use Rattle.archive_meta.specs.Enough.{IsListed}
use Rattle.archive_meta.specs.Facts.{first_under, metric_of, domain_of}
use Rattle.archive_meta.proofs.Taken.{Among}

-- a key that is put among keys is there, and the others stay
pub put_there : (keys : List ℕ) (k : ℕ) → Among k (insert_key nat_cmp keys k)
put_there [] k = inl refl
put_there (x ∷ xs) k = by (nat_cmp k x) refl (put_there xs k)
  where
    by : (o : Ordering) → nat_cmp k x ≡ o → Among k (insert_key nat_cmp xs k) → Among k (match_ordering o (k ∷ x ∷ xs) (x ∷ xs) (x ∷ insert_key nat_cmp xs k))
    by Less e more = inl refl
    by Equal e more = inl (sym (exact_unsigned k x e))
    by Greater e more = inr more

pub put_stays : (keys : List ℕ) (k q : ℕ) → Among q keys → Among q (insert_key nat_cmp keys k)
put_stays [] k q m = absurd m
put_stays (x ∷ xs) k q m = by (nat_cmp k x) (λ there. put_stays xs k q there)
  where
    by : (o : Ordering) → (Among q xs → Among q (insert_key nat_cmp xs k)) → Among q (match_ordering o (k ∷ x ∷ xs) (x ∷ xs) (x ∷ insert_key nat_cmp xs k))
    by Less more = inr m
    by Equal more = m
    by Greater more = ⊎_elim (λ (here : x ≡ q). inl here) (λ (there : Among q xs). inr (more there)) m

-- an instance is listed
abbrev pub HasInstance : ℤ → List (ℤ × List ℕ) → Type 0
HasInstance id [] = ⊥
HasInstance id (e ∷ es) = (e.0 ≡ id) ⊎ HasInstance id es

pub listed_there : (es : List (ℤ × List ℕ)) (id : ℤ) (name : List ℕ) → HasInstance id (insert_entry int_cmp es id name)
listed_there [] id name = inl refl
listed_there (e ∷ es) id name = by (int_cmp id e.0) refl (listed_there es id name)
  where
    by : (o : Ordering) → int_cmp id e.0 ≡ o → HasInstance id (insert_entry int_cmp es id name)
        → HasInstance id (match_ordering o ((id, name) ∷ e ∷ es) ((e.0, name) ∷ es) (e ∷ insert_entry int_cmp es id name))
    by Less f more = inl refl
    by Equal f more = inl (sym (exact_signed id e.0 f))
    by Greater f more = inr more

pub listed_stays : (es : List (ℤ × List ℕ)) (id q : ℤ) (name : List ℕ) → HasInstance q es → HasInstance q (insert_entry int_cmp es id name)
listed_stays [] id q name m = absurd m
listed_stays (e ∷ es) id q name m = by (int_cmp id e.0) (λ there. listed_stays es id q name there)
  where
    by : (o : Ordering) → (HasInstance q es → HasInstance q (insert_entry int_cmp es id name))
        → HasInstance q (match_ordering o ((id, name) ∷ e ∷ es) ((e.0, name) ∷ es) (e ∷ insert_entry int_cmp es id name))
    by Less more = inr m
    by Equal more = m
    by Greater more = ⊎_elim (λ (here : e.0 ≡ q). inl here) (λ (there : HasInstance q es). inr (more there)) m

pub is_listed : (es : List (ℤ × List ℕ)) (id : ℤ) → HasInstance id es → IsListed es id
is_listed [] id m = absurd m
is_listed (e ∷ es) id m =
    ⊎_elim (λ (here : e.0 ≡ id). (e.1, subst (λ i. Contains (e ∷ es) (i, e.1)) here (0, omega arith, refl)))
    (λ (there : HasInstance id es). let l : IsListed es id = is_listed es id there in (l.0, Contains-append_right (e ∷ []) es (id, l.0) l.1)) m

-- what holds of the keys of entries and of a key more
pub keys_with : {V : Type 0} (P : ℤ → Type 0) (es : List (ℤ × V)) (k : ℤ) (v : V) → AllByRecursion (λ (e : ℤ × V). P e.0) es → P k → AllByRecursion (λ (e : ℤ × V). P e.0) (insert_entry int_cmp es k v)
keys_with P [] k v all here = (here, tt)
keys_with {V} P (e ∷ es) k v all here = by (int_cmp k e.0) (keys_with P es k v all.1 here)
  where
    by : (o : Ordering) → AllByRecursion (λ (d : ℤ × V). P d.0) (insert_entry int_cmp es k v)
        → AllByRecursion (λ (d : ℤ × V). P d.0) (match_ordering o ((k, v) ∷ e ∷ es) ((e.0, v) ∷ es) (e ∷ insert_entry int_cmp es k v))
    by Less more = (here, all)
    by Equal more = (all.0, all.1)
    by Greater more = (all.0, more)

-- one fact about each metric, or none
abbrev pub IsOwn : ℕ → List (Desc × List ℕ) → Type 0
IsOwn p [] = Unit {0}
IsOwn p (f ∷ []) = f.0.pmid ≡ p
IsOwn p (f ∷ g ∷ fs) = ⊥

not_same : (a b c : ℕ) → a ≡ b → nat_eq b c ≡ false → nat_eq a c ≡ false
not_same a b c same other = ap (λ n. nat_eq n c) same ∙ other

skipped : (p k : ℕ) (l rest : List (Desc × List ℕ)) → IsOwn p l → nat_eq p k ≡ false → first_under metric_of (l ++ rest) k ≡ first_under metric_of rest k
skipped p k [] rest own other = refl
skipped p k (f ∷ []) rest own other = ap (λ b. cond b (Some f) (first_under metric_of rest k)) (not_same f.0.pmid p k own other)
skipped p k (f ∷ g ∷ fs) rest own other = absurd own

-- the fact about a metric is found among those about many
pub found_fact : (facts : ℕ → List (Desc × List ℕ)) → ((p : ℕ) → IsOwn p (facts p)) → (ps : List ℕ) (k : ℕ) (fact : Desc × List ℕ) → facts k ≡ fact ∷ [] → Among k ps
    → first_under metric_of (flat_map facts ps) k ≡ Some fact
found_fact facts own [] k fact is m = absurd m
found_fact facts own (p ∷ ps) k fact is m = by (nat_eq p k) refl (λ there. found_fact facts own ps k fact is there)
  where
    by : (b : Bool) → nat_eq p k ≡ b → (Among k ps → first_under metric_of (flat_map facts ps) k ≡ Some fact) → first_under metric_of (facts p ++ flat_map facts ps) k ≡ Some fact
    by true e more =
        let here : facts p ≡ fact ∷ [] = ap facts (eqb-true p k e) ∙ is in
        let same : fact.0.pmid ≡ k = subst (IsOwn k) is (own k) in
        ap (λ l. first_under metric_of (l ++ flat_map facts ps) k) here ∙ ap (λ b. cond b (Some fact) (first_under metric_of (flat_map facts ps) k)) (eq-eqb fact.0.pmid k same)
    by false e more =
        skipped p k (facts p) (flat_map facts ps) (own p) e ∙ ⊎_elim (λ (same : p ≡ k). absurd (eqb-false p k e same)) (λ (there : Among k ps). more there) m

-- and the instances of a domain among those of many
pub found_domain : (list : ℕ → List (ℤ × List ℕ)) (ks : List ℕ) (k : ℕ) → Among k ks → first_under domain_of (map (λ i. (i, list i)) ks) k ≡ Some (k, list k)
found_domain list [] k m = absurd m
found_domain list (i ∷ ks) k m = by (nat_eq i k) refl (λ there. found_domain list ks k there)
  where
    by : (b : Bool) → nat_eq i k ≡ b → (Among k ks → first_under domain_of (map (λ j. (j, list j)) ks) k ≡ Some (k, list k))
        → cond b (Some (i, list i)) (first_under domain_of (map (λ j. (j, list j)) ks) k) ≡ Some (k, list k)
    by true e more = ap (λ j. Some (j, list j)) (eqb-true i k e)
    by false e more = ⊎_elim (λ (same : i ≡ k). absurd (eqb-false i k e same)) (λ (there : Among k ks). more there) m
