-- A journal that is run as data: its entries are taken in order, up to the first one that is not open.
use Rattle.std.specs.Prelude.{◌≡◌, ℕ, List, [], ◌∷◌, take}
use mathlib.Core.Option.{some}
use lib.ListN.{get_elem?}
use Rattle.region_core.specs.declared.act.Entry.{Entry}
use Rattle.region_core.specs.declared.state.Stop.{Stop}
use Rattle.region_core.specs.declared.state.Stop.TheVariants.{NoMemory, NotOpen}
use Rattle.region_core.specs.State.{State, after, IsOpen}
use Rattle.region_core.specs.Journal.{state, state_at}

-- each entry is open in the state before it
abbrev pub IsRunnable : State → List Entry → Type 0
IsRunnable s [] = Unit {0}
IsRunnable s (e ∷ es) = IsOpen s e.by e.act × IsRunnable (after s e.by e.act) es

-- the state at the end of entries that are all open
pub record EndsIn (s : State) (log : List Entry) (last : State) : Type 0 where
  pub runs : IsRunnable s log
  pub is : last ≡ state s log

-- the first entry that is not open stands at this position
pub record IsFirstShut (s : State) (log : List Entry) (position : ℕ) : Type 0 where
  pub entry : Entry
  pub there : get_elem? log position ≡ some entry
  pub before : IsRunnable s (take position log)
  pub shut : IsOpen (state_at s log position) entry.by entry.act → ⊥

-- why a replay stopped; want of memory may come at any time
abbrev pub StopsFor : State → List Entry → Stop → Type 0
StopsFor s log NoMemory = Unit {0}
StopsFor s log (NotOpen position) = IsFirstShut s log position
