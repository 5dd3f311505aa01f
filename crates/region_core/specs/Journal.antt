-- A region's journal: the list of its entries from its making on.
use Rattle.std.specs.Prelude.{ℕ, ◌^◌, ◌<◌, ◌≤◌, ◌==◌, Bool, true, false, List, [], ◌∷◌, length, take}
use Rattle.region_core.specs.declared.act.Entry.{Entry}
use Rattle.region_core.specs.Shape.{Shaping}
use Rattle.region_core.specs.State.{State, after, opening, IsAllowed}

-- the state after these entries
abbrev pub state : State → List Entry → State
state s [] = s
state s (e ∷ es) = state (after s e.by e.act) es

-- the state after the first p entries, and after all of them where p is past the end
abbrev pub state_at : State → List Entry → ℕ → State
state_at s log p = state s (take p log)

-- with the entry in front, if it is of that pass
abbrev pub own_then : Bool → Entry → List Entry → List Entry
own_then true e es = e ∷ es
own_then false e es = es

-- the entries of pass k, in order
abbrev pub own : ℕ → List Entry → List Entry
own k [] = []
own k (e ∷ es) = own_then (e.by == k) e (own k es)

module _ (S : Shaping) where
  -- each entry is allowed in the state before it
  abbrev pub IsLegal : State → List Entry → Type 0
  IsLegal s [] = Unit {0}
  IsLegal s (e ∷ es) = IsAllowed S s e.by e.act × IsLegal (after s e.by e.act) es

  -- a legal journal of a region that was made with these words, up to the capacity, and so many passes
  pub record IsJournal (words : List ℕ) (passes : ℕ) (log : List Entry) : Type 0 where
    pub image : S.IsImage words
    pub wide : length words ≤ 65536
    pub few : passes < 2 ^ 32
    pub legal : IsLegal (opening words passes) log
