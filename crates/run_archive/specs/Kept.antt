-- What a run keeps of its archive: a session under the run's label, and how the disk came to it.
use Rattle.std.specs.Prelude.{◌≡◌, ◌⊎◌, List, []}
use Rattle.pcp_base.specs.declared.result.Item.{Item}
use Rattle.pcp_model.specs.Disk.{Files}
use Rattle.pcp_outside.specs.declared.disk.Disk.{Ghosts as DiskGhosts}
use Rattle.fetch_answers.specs.declared.fetch.Fetched.{Fetched}
use Rattle.logging_session.specs.Course.{HasKept, WentBy}
use Rattle.logging_session.specs.Events.{Event, opening}
use Rattle.logging_session.specs.Keeping.{Carried}
use Rattle.script_runs.specs.declared.ending.Ending.{Ending}
use Rattle.script_runs.specs.declared.ending.Ending.TheVariants as ends
use Rattle.script_runs.specs.Archives.{IsTurnedAway, run_label}

-- over what recovery left, since that moment, with these events
pub record KeepsRun {D : Type 0} (d : DiskGhosts D) (left : Files) (events : List Event) (start : D) (s : Carried) (disk : D) : Type 0 where
  pub label : s.label ≡ run_label
  pub kept : HasKept d left events start s disk

-- over whatever archive a session keeps
module _ {D : Type 0} (d : DiskGhosts D) (was : Carried) (old : D) where
  abbrev pub OverAny : (Files → List Event → D → Type 0) → Type 0
  OverAny P = d.tells → (left : Files) (events : List Event) (start : D) → KeepsRun d left events start was old → P left events start

module _ {D : Type 0} (d : DiskGhosts D) (left : Files) (events : List Event) (start : D) (f : Fetched) (s : Carried) (disk : D) where
  -- the archive was opened for what was shown, and turned it away
  pub record TurnsItAway (ending : Ending) : Type 0 where
    pub kept : KeepsRun d left (opening f.result.stamp events) start s disk
    pub away : IsTurnedAway s.limit left events f ending

  -- What stands where a run ends since this wasn't logged: for want of memory the archive may have been opened for it; when the disk failed
  -- what was held may have been on its way.
  abbrev pub LeavesUnlogged : Ending → Type 0
  LeavesUnlogged ends.NoMemory = KeepsRun d left events start s disk ⊎ KeepsRun d left (opening f.result.stamp events) start s disk
  LeavesUnlogged ends.DiskFault = WentBy d run_label s.limit left events [] start disk
  LeavesUnlogged ending = TurnsItAway ending

-- What stands of the archive where a run ended, with these events; where the disk failed, how it came there, and what was on its way.
abbrev pub IsLeft : {D : Type 0} → DiskGhosts D → Files → D → Carried → D → List Event → List Item → Ending → Type 0
IsLeft d left start s disk events more ends.DiskFault = WentBy d run_label s.limit left events more start disk
IsLeft d left start s disk events more ending = KeepsRun d left events start s disk

-- it did this, and stands so
pub record HasDone {D : Type 0} (d : DiskGhosts D) (left : Files) (start : D) (s : Carried) (disk : D) (ending : Ending) (Did : List Event → List Item → Type 0) : Type 0 where
  pub events : List Event
  pub more : List Item
  pub did : Did events more
  pub stands : IsLeft d left start s disk events more ending
