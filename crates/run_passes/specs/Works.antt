-- One call of a pass against the step that it is in a run as a fold.
use Rattle.std.specs.Prelude.{◌≡◌, ◌≢◌, ℕ, ◌+◌, ◌≤◌, List, [], codes, length, slice_get, slice_set, Option, Some, None}
use Rattle.region_core.specs.declared.act.Entry.{Entry}
use Rattle.region_core.specs.State.{IsIn}
use Rattle.region_rule.specs.declared.fault.ChangeFault.{ChangeFault}
use Rattle.region_rule.specs.declared.fault.ChangeFault.TheVariants as faults
use Rattle.region_rule.specs.declared.view.View.{View}
use Rattle.region_rule.specs.Views.{opening_of, now}
use Rattle.region_rule.specs.Seats.{MadeRegion}
use Rattle.script_runs.specs.Journals.{without_looks}
use Rattle.script_runs.specs.PassSteps as steps
use Rattle.text_lines.specs.Spelling.{one_number, two_numbers}
use Rattle.script_runs.specs.PassSteps.{Outcome}
use Rattle.script_runs.specs.Regions.{Doing, ScriptRegion}
use Rattle.run_passes.specs.declared.deed.Deed.{Deed}
use Rattle.run_passes.specs.declared.deed.Deed.TheVariants as deeds
use Rattle.run_passes.specs.declared.said.Said.{Said}
use Rattle.run_passes.specs.declared.said.Said.TheVariants as said
use Rattle.run_passes.specs.declared.worker.Worker.{Worker}
use Rattle.run_passes.specs.Workers.{IsWorker, view_of, doing_of}

-- what a step says
abbrev pub line_of : Said → List ℕ
line_of said.Nothing = []
line_of said.Attached = codes "attached\n"
line_of (said.Bounced gate) = one_number (codes "Changing") gate
line_of (said.TooLarge need capacity) = two_numbers (codes "TooLarge") need capacity
line_of (said.Busy gate) = one_number (codes "Busy") gate
line_of (said.Spent generation) = one_number (codes "Spent") generation
line_of (said.Begun generation) = one_number (codes "begun") generation
line_of (said.Word value) = one_number (codes "word") value
line_of (said.Stable generation) = one_number (codes "stable") generation
line_of (said.Again first last) = two_numbers (codes "Again") first last

-- a step of a region, by what its pass does
abbrev pub Step : Type 0
Step = ScriptRegion → ℕ → Doing → Option Outcome

abbrev pub step_of : Deed → Step
step_of deeds.Attach = steps.attaches
step_of deeds.Detach = steps.detaches
step_of (deeds.Swap item instance value) = λ r k doing. steps.swaps r k item instance value.now doing
step_of (deeds.Add item instance number) = λ r k doing. steps.adds r k item instance number doing
step_of (deeds.Begin image moment) = λ r k doing. steps.begins r k image.now moment doing
step_of deeds.Step = steps.steps_on
step_of deeds.Finish = steps.finishes
step_of deeds.Load = steps.loads
step_of (deeds.Word index) = λ r k doing. steps.reads r k index doing
step_of deeds.Done = steps.ends

-- these need no memory
abbrev pub NeedsNone : Deed → Type 0
NeedsNone deeds.Detach = Unit {0}
NeedsNone deeds.Finish = Unit {0}
NeedsNone deeds.Done = Unit {0}
NeedsNone _ = ⊥

-- what a pass does once they have ended it
abbrev pub ended_doing : Deed → Doing → Doing
ended_doing deeds.Detach Doing.attached = Doing.idle
ended_doing deeds.Finish (Doing.changing image n next) = Doing.idle
ended_doing deeds.Done (Doing.reading first) = Doing.idle
ended_doing deed doing = doing

-- a call adds to what a pass has made, and as much at least to what it has seen
pub record Grows (v w : View) : Type 0 where
  pub made : length v.own ≤ length w.own
  pub seen : length v.seen + length w.own ≤ length w.seen + length v.own

-- nobody else acted meanwhile
abbrev pub Quiet : View → View → Type 0
Quiet v w = length w.seen + length v.own ≤ length v.seen + length w.own

-- the journal that was seen, without looks
abbrev pub seen_log : ℕ → View → List Entry
seen_log logger v = without_looks (opening_of v) logger v.seen

-- a region as a pass has seen it, and what its passes do
abbrev pub region_seen : ScriptRegion → ℕ → View → List Doing → ScriptRegion
region_seen r logger v doing = record { file = r.file; cluster = r.cluster; state = now v; doing = doing; log = seen_log logger v }

abbrev pub region_by : ScriptRegion → ℕ → ℕ → Worker → ScriptRegion
region_by r logger k worker = region_seen r logger (view_of worker) (slice_set r.doing k (doing_of worker))

-- pass k of a region is at its work, and has seen all
pub record IsAtWork (region : MadeRegion) (logger k : ℕ) (worker : Worker) (r : ScriptRegion) : Type 0 where
  pub other : k ≢ logger
  pub is_worker : IsWorker region k worker
  pub there : IsIn (view_of worker).mode (now (view_of worker)) k
  pub doing : slice_get r.doing k ≡ Some (doing_of worker)
  pub is : r ≡ region_seen r logger (view_of worker) r.doing

-- it did the step, and this is the line; or the step's condition fails
abbrev pub IsStep : Step → ScriptRegion → ℕ → ℕ → Worker → Worker → Option Said → Type 0
IsStep step r logger k old new None = (step r k (doing_of old) ≡ None) × (r ≡ region_by r logger k new)
IsStep step r logger k old new (Some line) = step r k (doing_of old) ≡ Some (region_by r logger k new, line_of line)

-- A worker is of the region
abbrev pub IsHere : MadeRegion → Worker → Type 0
IsHere region worker = (k : ℕ) × IsWorker region k worker

-- What a call makes of a worker: where nobody else acted, it is the step
pub record Works (region : MadeRegion) (step : Step) (old new : Worker) (line : Option Said) : Type 0 where
  pub stays : (k : ℕ) → IsWorker region k old → IsWorker region k new
  pub grows : Grows (view_of old) (view_of new)
  pub does : (logger k : ℕ) (r : ScriptRegion) → IsAtWork region logger k old r → Quiet (view_of old) (view_of new) → IsStep step r logger k old new line

-- memory was refused: it did nothing but look
pub record Rests (region : MadeRegion) (old new : Worker) : Type 0 where
  pub stays : (k : ℕ) → IsWorker region k old → IsWorker region k new
  pub grows : Grows (view_of old) (view_of new)
  pub same : (logger k : ℕ) (r : ScriptRegion) → IsAtWork region logger k old r → Quiet (view_of old) (view_of new) → r ≡ region_by r logger k new

-- why no change began
abbrev pub fault_said : ChangeFault → Said
fault_said (faults.TooLarge need capacity) = said.TooLarge need capacity
fault_said (faults.Busy gate) = said.Busy gate
fault_said (faults.Spent generation) = said.Spent generation
