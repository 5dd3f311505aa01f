-- What loads of the logger's passes alone make of a run: its passes stay where they stood, and where nobody else acts what was read of the
-- regions is what the run shows.
use Rattle.std.specs.Prelude.{◌≡◌, ℕ, List, map}
use Rattle.pcp_base.specs.Time.{Moment}
use Rattle.region_rule.specs.Seats.{Token}
use Rattle.fetch_answers.specs.Names.{names_of}
use Rattle.fetch_answers.specs.Readings.{RegionReading, reading_of}
use Rattle.fetch_engine.specs.Visits.{AreLoaded, AreRead, names_in}
use Rattle.fetch_engine.specs.declared.server.Mounted.{Mounted}
use Rattle.run_script.specs.declared.script.Script.{Script}
use Rattle.script_runs.specs.Groups.{shots_of}
use Rattle.script_runs.specs.Regions.{ScriptRegion}
use Rattle.script_runs.specs.Steps.{fetched_from}
use Rattle.run_passes.specs.declared.running.Running.{Running}
use Rattle.run_passes.specs.Alike.{AnswerAlike}
use Rattle.run_passes.specs.Crews.{Alone, Follows, IsManned}

-- Each region has its passes still, and where nobody else acted behind the loads nobody did before.
abbrev pub LoadedStayManned : Type 0
LoadedStayManned = (server : List Mounted) (running : Running) (old new : List Token) → IsManned server running old → AreLoaded old new
    → IsManned server running new × (Alone running new → Alone running old)

-- What was read tells what the regions of a run show: these names, and of any metrics this result with its facts.
pub record ReadsAs (readings : List RegionReading) (regions : List ScriptRegion) : Type 0 where
  pub alike : AnswerAlike readings (map reading_of (shots_of regions))
  pub names : names_in readings ≡ names_of (shots_of regions)
  pub fetched : (pmids : List ℕ) (now : Moment) → fetched_from readings pmids now ≡ fetched_from (map reading_of (shots_of regions)) pmids now

-- Where nobody else acts a run is followed still, and what was read with these loads tells what it shows.
abbrev pub AloneReadingsAreStates : Type 0
AloneReadingsAreStates = (script : Script) (server : List Mounted) (running : Running) (old new : List Token) (regions : List ScriptRegion)
    → IsManned server running old → AreLoaded old new → Alone running new → Follows script server running old regions
    → Follows script server running new regions × ((readings : List RegionReading) → AreRead server old readings new → ReadsAs readings regions)
