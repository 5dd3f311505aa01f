-- Slots of PMIDs stay.
use Rattle.std.proofs.Common.{◌≡◌, ℕ, ap, sym, is_some, Bool, true, false, cond, List, [], ◌∷◌, ◌++◌, Option, Some, None, refl}
use Rattle.std.specs.Option.{IsSome, option_and_then}
use Rattle.std.specs.Ordering.{nat_cmp}
use Rattle.std.specs.BTreeMap.{BTreeMap, get}
use Rattle.pmns_core.specs.Pairs.{Pair}
use Rattle.pmns_core.specs.Tables.{HasSlots}

pub some_cond : (t : Bool) (w : Option (List ℕ)) (o : Option (Option (List ℕ))) → IsSome o → IsSome (cond t (Some w) o)
some_cond true w o h = refl
some_cond false w o h = h

module _ (old new : BTreeMap ℕ (Option (List ℕ))) (keeps : (q : ℕ) → IsSome (get nat_cmp old q) → IsSome (get nat_cmp new q)) where
  pub keeps_slots : (pairs : List Pair) → HasSlots old pairs → HasSlots new pairs
  keeps_slots [] h = tt
  keeps_slots (p ∷ pairs) (here, later) = (keeps p.1 here, keeps_slots pairs later)

pub one_slot_more : (table : BTreeMap ℕ (Option (List ℕ))) (pairs : List Pair) (p : Pair) → HasSlots table pairs → IsSome (get nat_cmp table p.1) → HasSlots table (pairs ++ p ∷ [])
one_slot_more table [] p h here = (here, tt)
one_slot_more table (q ∷ pairs) p (first, later) here = (first, one_slot_more table pairs p later here)

-- a slot without a name shows none, as no slot does
pub empty_slot : (t : Bool) (o : Option (Option (List ℕ))) → (t ≡ true → o ≡ None) → option_and_then (λ (n : Option (List ℕ)). n) (cond t (Some None) o) ≡ option_and_then (λ (n : Option (List ℕ)). n) o
empty_slot true o h = ap (option_and_then (λ (n : Option (List ℕ)). n)) (sym (h refl))
empty_slot false o h = refl

pub none_there : (o : Option (Option (List ℕ))) → is_some o ≡ false → o ≡ None
none_there None h = refl
none_there (Some n) h = cc h
