-- That no name continues another stays so where pairs are added.
use Rattle.std.proofs.Common.{◌≡◌, ℕ, ◌⊎◌, Bool, true, false, ◌||◌, if◌then◌else◌, List, [], ◌∷◌, ◌++◌, length, drop, Option, Some, None, Ok, Err, refl, sym, ap, subst, inl, inr, arith, length-append}
use Rattle.std.specs.Prelude.{Result}
use Rattle.pmns_core.specs.Order.{is_same, is_before, continues}
use Rattle.pmns_core.specs.Pairs.{Pair, with_pair}
use Rattle.pmns_core.specs.Adding.{is_there, is_under, is_above, misfit, unless_fault, after_adding, Adds, AreApart}
use Rattle.pmns_core.specs.declared.fault.NamesFault.{NamesFault}
use Rattle.pmns_core.specs.declared.fault.NamesFault.TheVariants as faults
use Rattle.pmns_core.proofs.Bytes.{same_name, starts_split, or_cases, or_left, or_right, no_then}

-- no name continues itself: it would be longer than it is
continues_itself : (name : List ℕ) → continues name name ≡ false
continues_itself name = no_then (continues name name) (λ (h : continues name name ≡ true).
    let split = starts_split name (name ++ 46 ∷ []) h in
    omega (arith, ap length split, length-append (name ++ 46 ∷ []) (drop (length (name ++ 46 ∷ [])) name), length-append name (46 ∷ [])))

neither : (a b : Bool) → (a || b) ≡ false → (a ≡ false) × (b ≡ false)
neither true b e = cc e
neither false b e = (refl, e)

-- a name that is there once a pair was added is that pair's, or was there before
there_before : (pairs : List Pair) (name : List ℕ) (pmid : ℕ) (x : List ℕ) → is_there (with_pair pairs name pmid) x ≡ true → (is_same x name ≡ true) ⊎ (is_there pairs x ≡ true)
there_before [] name pmid x h = or_cases (is_same x name) false h
there_before (p ∷ pairs) name pmid x h = by (is_before name p.0) h (λ later. there_before pairs name pmid x later)
  where
    by : (t : Bool) → is_there (if t then (name, pmid) ∷ p ∷ pairs else p ∷ with_pair pairs name pmid) x ≡ true
        → (is_there (with_pair pairs name pmid) x ≡ true → (is_same x name ≡ true) ⊎ (is_there pairs x ≡ true)) → (is_same x name ≡ true) ⊎ (is_there (p ∷ pairs) x ≡ true)
    by true h again = or_cases (is_same x name) (is_there (p ∷ pairs) x) h
    by false h again = elim (or_cases (is_same x p.0) (is_there (with_pair pairs name pmid) x) h) [
      | inl here ↦ inr (or_left (is_same x p.0) (is_there pairs x) here)
      | inr later ↦ elim (again later) [
        | inl same ↦ inl same
        | inr there ↦ inr (or_right (is_same x p.0) (is_there pairs x) there)
      ]
    ]

under_none : (pairs : List Pair) (name other : List ℕ) → is_under pairs name ≡ false → is_there pairs other ≡ true → continues name other ≡ false
under_none [] name other none there = cc there
under_none (p ∷ pairs) name other none there =
    let both = neither (continues name p.0) (is_under pairs name) none in
    elim (or_cases (is_same other p.0) (is_there pairs other) there) [
      | inl same ↦ subst (λ (n : List ℕ). continues name n ≡ false) (sym (same_name other p.0 same)) both.0
      | inr later ↦ under_none pairs name other both.1 later
    ]

above_none : (pairs : List Pair) (name other : List ℕ) → is_above pairs name ≡ false → is_there pairs other ≡ true → continues other name ≡ false
above_none [] name other none there = cc there
above_none (p ∷ pairs) name other none there =
    let both = neither (continues p.0 name) (is_above pairs name) none in
    elim (or_cases (is_same other p.0) (is_there pairs other) there) [
      | inl same ↦ subst (λ (n : List ℕ). continues n name ≡ false) (sym (same_name other p.0 same)) both.0
      | inr later ↦ above_none pairs name other both.1 later
    ]

-- a name that fits continues none, and none continues it
fitted : (pairs : List Pair) (name : List ℕ) → misfit pairs name ≡ None → (is_under pairs name ≡ false) × (is_above pairs name ≡ false)
fitted pairs name e = by (is_there pairs name) (is_under pairs name) (is_above pairs name) e
  where
    by : (t u a : Bool) → (if t then Some (faults.Duplicate name) else if u then Some (faults.LeafAndNode name) else if a then Some (faults.LeafAndNode name) else None) ≡ None → (u ≡ false) × (a ≡ false)
    by true u a e = cc e
    by false true a e = cc e
    by false false true e = cc e
    by false false false e = (refl, refl)

apart_with : (pairs : List Pair) (name : List ℕ) (pmid : ℕ) → misfit pairs name ≡ None → AreApart pairs → AreApart (with_pair pairs name pmid)
apart_with pairs name pmid fits apart x y there_x there_y =
    let alone = fitted pairs name fits in
    elim (there_before pairs name pmid x there_x) [
      | inl same_x ↦ subst (λ (n : List ℕ). continues n y ≡ false) (sym (same_name x name same_x)) (elim (there_before pairs name pmid y there_y) [
        | inl same_y ↦ subst (λ (n : List ℕ). continues name n ≡ false) (sym (same_name y name same_y)) (continues_itself name)
        | inr in_y ↦ under_none pairs name y alone.0 in_y
      ])
      | inr in_x ↦ elim (there_before pairs name pmid y there_y) [
        | inl same_y ↦ subst (λ (n : List ℕ). continues x n ≡ false) (sym (same_name y name same_y)) (above_none pairs name x alone.1 in_x)
        | inr in_y ↦ apart x y in_x in_y
      ]
    ]

added_apart : (more pairs new : List Pair) → after_adding more pairs ≡ Ok new → AreApart pairs → AreApart new
added_apart [] pairs new e apart = let same : pairs ≡ new = cc e in subst AreApart same apart
added_apart (p ∷ more) pairs new e apart = by (misfit pairs p.0) refl e (λ fits later. added_apart more (with_pair pairs p.0 p.1) new later (apart_with pairs p.0 p.1 fits apart))
  where
    by : (o : Option NamesFault) → misfit pairs p.0 ≡ o → unless_fault o (after_adding more (with_pair pairs p.0 p.1)) ≡ Ok new
        → (misfit pairs p.0 ≡ None → after_adding more (with_pair pairs p.0 p.1) ≡ Ok new → AreApart new) → AreApart new
    by None fits e again = again fits e
    by (Some fault) fits e again = cc e

-- whether all are added or none
pub stay_apart : (result : Result (Unit {0}) NamesFault) (more old new : List Pair) → Adds result more old new → AreApart old → AreApart new
stay_apart (Ok done) more old new adds apart = added_apart more old new adds apart
stay_apart (Err faults.NoMemory) more old new adds apart = subst AreApart (sym adds) apart
stay_apart (Err (faults.Duplicate name)) more old new adds apart = subst AreApart (sym adds.1) apart
stay_apart (Err (faults.LeafAndNode name)) more old new adds apart = subst AreApart (sym adds.1) apart
