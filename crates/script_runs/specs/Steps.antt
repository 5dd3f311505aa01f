-- What each line of a script does to a run: to its regions, to what its groups ask for, and which events it makes of its archive.
use Rattle.std.specs.Prelude.{◌≡◌, ℕ, ◌≤◌, true, List, [], ◌∷◌, ◌++◌, codes, length, map, option_map, slice_get, slice_set, Option, Some, None}
use Rattle.pcp_base.specs.Time.{Moment}
use Rattle.pcp_base.specs.declared.result.Item.{Item}
use Rattle.pmns_core.specs.Pairs.{Pair}
use Rattle.profile_filter.specs.Kept.{Settings}
use Rattle.fetch_answers.specs.declared.fetch.Fetched.{Fetched}
use Rattle.fetch_answers.specs.Answers.{answer_of, facts_of}
use Rattle.fetch_answers.specs.Names.{names_of}
use Rattle.fetch_answers.specs.Readings.{RegionReading, reading_of}
use Rattle.log_schedule.specs.declared.config.Group.{Group}
use Rattle.log_schedule.specs.Instants.{EachPasses}
use Rattle.logging_session.specs.Events.{Event, items_by, with_report}
use Rattle.run_script.specs.declared.script.Line.{Line}
use Rattle.run_script.specs.declared.script.Line.TheVariants as lines
use Rattle.run_script.specs.declared.script.Script.{Script}
use Rattle.script_runs.specs.Regions.{Doing, ScriptRegion, doing_of, words_at}
use Rattle.script_runs.specs.PassSteps as steps
use Rattle.text_lines.specs.Spelling.{one_number}
use Rattle.script_runs.specs.PassSteps.{Outcome}
use Rattle.script_runs.specs.Groups.{Plan, shots_of, plans_at_start, asking, asked_for}
use Rattle.script_runs.specs.Archives.{report_of}

-- Regions, the groups once they have started, what was done to the archive, and the lines written
pub record RunState : Type 0 where
  pub regions : List ScriptRegion
  pub plans : Option (List Plan)
  pub events : List Event
  pub output : List ℕ

-- Passes

-- regions behind a step of one of them, and the line
abbrev pub Regions : Type 0
Regions = List ScriptRegion × List ℕ

abbrev pub in_found : List ScriptRegion → ℕ → ℕ → (ScriptRegion → ℕ → Doing → Option Outcome) → Option ScriptRegion → Option Regions
in_found regions at k step None = None
in_found regions at k step (Some r) = option_map (λ outcome. (slice_set regions at outcome.0, outcome.1)) (step r k (doing_of r k))

abbrev pub in_region : List ScriptRegion → ℕ → ℕ → (ScriptRegion → ℕ → Doing → Option Outcome) → Option Regions
in_region regions at k step = in_found regions at k step (slice_get regions at)

-- A step of a pass, where its condition is met. Ticks and flushes leave regions as they are.
abbrev pub pass_step : Script → List ScriptRegion → Line → Option Regions
pass_step script regions (lines.Attach at k) = in_region regions at k steps.attaches
pass_step script regions (lines.Detach at k) = in_region regions at k steps.detaches
pass_step script regions (lines.Swap at k item instance value) = in_region regions at k (λ r j doing. steps.swaps r j item instance value doing)
pass_step script regions (lines.Add at k item instance number) = in_region regions at k (λ r j doing. steps.adds r j item instance number doing)
pass_step script regions (lines.Begin at k image moment) = in_region regions at k (λ r j doing. steps.begins r j (words_at script.images image) moment doing)
pass_step script regions (lines.Step at k) = in_region regions at k steps.steps_on
pass_step script regions (lines.Finish at k) = in_region regions at k steps.finishes
pass_step script regions (lines.Load at k) = in_region regions at k steps.loads
pass_step script regions (lines.Word at k index) = in_region regions at k (λ r j doing. steps.reads r j index doing)
pass_step script regions (lines.Done at k) = in_region regions at k steps.ends
pass_step script regions (lines.Tick stamp) = Some (regions, [])
pass_step script regions lines.Flush = Some (regions, [])

-- the regions behind steps, as far as ticks and flushes don't matter, and the lines that they write
abbrev pub then_steps : List ℕ → Option Regions → (Regions → Option Regions) → Option Regions
then_steps output None next = None
then_steps output (Some found) next = next (found.0, output ++ found.1)

abbrev pub steps_behind : Script → List (ℕ × Line) → Regions → Option Regions
steps_behind script [] found = Some found
steps_behind script (step ∷ steps) found = then_steps found.1 (pass_step script found.0 step.1) (λ later. steps_behind script steps later)

pub record PassGoes (script : Script) (s : RunState) (line : Line) (t : RunState) : Type 0 where
  pub found : Regions
  pub is : pass_step script s.regions line ≡ Some found
  pub after : t ≡ record s { regions = found.0; output = s.output ++ found.1 }

-- Ticks

-- the groups with what they ask for at a tick
abbrev pub plans_at : List Group → Option (List Plan) → Moment → List Plan
plans_at groups None now = plans_at_start groups now
plans_at groups (Some plans) now = plans

abbrev pub names_in : RunState → List Pair
names_in s = names_of (shots_of s.regions)

abbrev pub asking_at : Script → RunState → Moment → List Plan
asking_at script s now = asking (names_in s) now (plans_at script.config.groups s.plans now)

-- the profile that keeps every instance
abbrev pub every_instance : Settings
every_instance = record { global = true; parts = [] }

-- what a fetch answers of what was read of regions, and what describes it
abbrev pub fetched_from : List RegionReading → List ℕ → Moment → Fetched
fetched_from readings pmids now = record {
  result = answer_of readings every_instance pmids now;
  facts = facts_of readings (answer_of readings every_instance pmids now).sets;
}

abbrev pub fetched_at : RunState → List ℕ → Moment → Fetched
fetched_at s pmids now = fetched_from (map reading_of (shots_of s.regions)) pmids now

-- then the moment has passed for each group
pub record PassesForEach (now : Moment) (old new : List Plan) : Type 0 where
  pub timetables : EachPasses now (map (λ plan. plan.timetable) old) (map (λ plan. plan.timetable) new)
  pub groups : map (λ plan. plan.group) new ≡ map (λ plan. plan.group) old
  pub asked : map (λ plan. plan.asked) new ≡ map (λ plan. plan.asked) old

-- the metrics that a tick asks for
abbrev pub pmids_at : Script → RunState → Moment → List ℕ
pmids_at script s now = asked_for now (asking_at script s now)

-- what it shows of them is logged, where it asks for any
abbrev pub with_shown : RunState → Moment → List ℕ → List Event
with_shown s now [] = s.events
with_shown s now (pmid ∷ pmids) = with_report s.events (report_of (fetched_at s (pmid ∷ pmids) now))

-- at most 1,024 metrics are asked for, and the moment has passed for each group
pub record Ticks (script : Script) (s : RunState) (now : Moment) (t : RunState) : Type 0 where
  pub few : length (pmids_at script s now) ≤ 1024
  pub later : List Plan
  pub passed : PassesForEach now (asking_at script s now) later
  pub after : t ≡ record {
    regions = s.regions;
    plans = Some later;
    events = with_shown s now (pmids_at script s now);
    output = s.output ++ one_number (codes "tick") (length (pmids_at script s now));
  }

-- Flushes

-- before the run's first result nothing is done or written
abbrev pub flushing : List Item → RunState → RunState
flushing [] s = s
flushing (item ∷ items) s = record s { events = s.events ++ Event.flushed ∷ []; output = s.output ++ one_number (codes "flushed") (length (item ∷ items)) }

-- Lines

-- a line is run
abbrev pub GoesOn : Script → RunState → Line → RunState → Type 0
GoesOn script s (lines.Tick now) t = Ticks script s now t
GoesOn script s lines.Flush t = t ≡ flushing (items_by s.events) s
GoesOn script s line t = PassGoes script s line t

-- a line of a pass whose condition fails; ticks and flushes have none
abbrev pub Fails : Script → RunState → Line → Type 0
Fails script s line = pass_step script s.regions line ≡ None
