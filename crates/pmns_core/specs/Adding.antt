-- What becomes of a name space when pairs are added: all of them, or none and the first that doesn't fit.
use Rattle.std.specs.Prelude.{◌≡◌, ℕ, Bool, true, false, if◌then◌else◌, List, [], ◌∷◌, Option, Some, None, Result, Ok, Err}
use Rattle.std.specs.List.{list_any}
use Rattle.pmns_core.specs.Order.{is_same, continues}
use Rattle.pmns_core.specs.Pairs.{Pair, with_pair}
use Rattle.pmns_core.specs.declared.fault.NamesFault.{NamesFault}
use Rattle.pmns_core.specs.declared.fault.NamesFault.TheVariants as faults

-- the name is there
abbrev pub is_there : List Pair → List ℕ → Bool
is_there pairs name = list_any (λ p. is_same name p.0) pairs

-- the name continues one that is there
abbrev pub is_under : List Pair → List ℕ → Bool
is_under pairs name = list_any (λ p. continues name p.0) pairs

-- one that is there continues the name
abbrev pub is_above : List Pair → List ℕ → Bool
is_above pairs name = list_any (λ p. continues p.0 name) pairs

-- no name that is there continues another that is
abbrev pub AreApart : List Pair → Type 0
AreApart pairs = (name other : List ℕ) → is_there pairs name ≡ true → is_there pairs other ≡ true → continues name other ≡ false

-- why a name doesn't fit
abbrev pub misfit : List Pair → List ℕ → Option NamesFault
misfit pairs name =
    if is_there pairs name then Some (faults.Duplicate name) else
    if is_under pairs name then Some (faults.LeafAndNode name) else
    if is_above pairs name then Some (faults.LeafAndNode name) else None

-- a fault, or else what comes after
abbrev pub unless_fault : Option NamesFault → Result (List Pair) NamesFault → Result (List Pair) NamesFault
unless_fault None result = result
unless_fault (Some fault) result = Err fault

-- what is there once pairs were added one after another, or the first one's fault
abbrev pub after_adding : List Pair → List Pair → Result (List Pair) NamesFault
after_adding [] pairs = Ok pairs
after_adding (p ∷ more) pairs = unless_fault (misfit pairs p.0) (after_adding more (with_pair pairs p.0 p.1))

-- all are added, or nothing is changed and the fault is that of the first that doesn't fit
abbrev pub Adds : Result (Unit {0}) NamesFault → List Pair → List Pair → List Pair → Type 0
Adds (Ok done) more old new = after_adding more old ≡ Ok new
Adds (Err faults.NoMemory) more old new = new ≡ old
Adds (Err fault) more old new = (after_adding more old ≡ Err fault) × (new ≡ old)

-- the same of one pair
abbrev pub AddsOne : Result (Unit {0}) NamesFault → List Pair → List Pair → List ℕ → ℕ → Type 0
AddsOne (Ok done) old new name pmid = (misfit old name ≡ None) × (new ≡ with_pair old name pmid)
AddsOne (Err faults.NoMemory) old new name pmid = new ≡ old
AddsOne (Err fault) old new name pmid = (misfit old name ≡ Some fault) × (new ≡ old)
