-- What the run of a line makes, by the step that it is in a run as a fold.
use Rattle.std.specs.Prelude.{◌≡◌, ℕ, Bool, true, false, List, ◌++◌, map, Option, Some, None, Ok, Err}
use Rattle.pcp_base.specs.Time.{Moment}
use Rattle.region_rule.specs.Seats.{Token}
use Rattle.fetch_answers.specs.Readings.{reading_of}
use Rattle.fetch_answers.specs.declared.fetch.Fetched.{Fetched}
use Rattle.fetch_engine.specs.declared.server.Mounted.{Mounted}
use Rattle.run_script.specs.declared.script.Script.{Script}
use Rattle.script_runs.specs.Groups.{shots_of}
use Rattle.script_runs.specs.Regions.{ScriptRegion}
use Rattle.script_runs.specs.Steps.{Regions, fetched_from}
use Rattle.run_passes.specs.Works.{line_of}
use Rattle.run_passes.specs.declared.running.Running.{Running}
use Rattle.run_passes.specs.Crews.{Follows}
use Rattle.run_passes.specs.Turns.{Answer}

-- What a call made of a run's regions, whose step is this
abbrev pub HasDone : (List ScriptRegion → Type 0) → List ScriptRegion → Option Regions → Answer → Type 0
HasDone Stands regions step (Ok (Some line)) = (next : List ScriptRegion) × (step ≡ Some (next, line_of line)) × Stands next
HasDone Stands regions step (Ok None) = (step ≡ None) × Stands regions
HasDone Stands regions step (Err _) = Stands regions

-- The line was run, and written behind what was; or its condition failed, and nothing was done
abbrev pub HasRun : (List ScriptRegion → Type 0) → List ScriptRegion → List ℕ → List ℕ → Option Regions → Bool → Type 0
HasRun Stands regions old new (Some found) true = Stands found.0 × (new ≡ old ++ found.1)
HasRun Stands regions old new None false = Stands regions × (new ≡ old)
HasRun Stands regions old new _ _ = ⊥

-- memory was refused: nothing was done, and nothing is written
abbrev pub WasCut : (List ScriptRegion → Type 0) → List ScriptRegion → List ℕ → List ℕ → Type 0
WasCut Stands regions old new = (new ≡ old) × Stands regions

-- what a run shows of these metrics at this moment
abbrev pub fetched_of : List ScriptRegion → List ℕ → Moment → Fetched
fetched_of regions pmids now = fetched_from (map reading_of (shots_of regions)) pmids now

-- a run that was followed is followed as it was, and this holds of it
abbrev pub KeepsFollowing : List Mounted → Running → List Token → List Token → (List ScriptRegion → Type 0) → Type 0
KeepsFollowing server running old new Says = (script : Script) (regions : List ScriptRegion) → Follows script server running old regions → Follows script server running new regions × Says regions
