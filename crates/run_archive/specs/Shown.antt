-- What samples ask for, and the results that are logged of them (pmlogger(1)).
use Rattle.std.specs.Prelude.{◌≡◌, ℕ, ◌<◌, ◌≤◌, List, [], ◌∷◌, ◌++◌, length, map, Option, Some, None}
use Rattle.std.specs.List.{AllByRecursion}
use Rattle.pcp_base.specs.Results.{Fits}
use Rattle.pcp_base.specs.Time.{Moment}
use Rattle.pcp_base.specs.declared.result.Item.{Item}
use Rattle.pcp_base.specs.declared.result.Item.TheVariants.{Sample}
use Rattle.archive_meta.specs.Enough.{AreEnough}
use Rattle.fetch_answers.specs.declared.fetch.Fetched.{Fetched}
use Rattle.fetch_answers.specs.Readings.{RegionReading}
use Rattle.fetch_engine.specs.Visits.{names_in}
use Rattle.log_schedule.specs.declared.config.Group.{Group}
use Rattle.logging_session.specs.Events.{Event, with_report}
use Rattle.script_runs.specs.Archives.{report_of}
use Rattle.script_runs.specs.Groups.{Plan, asking, asked_for}
use Rattle.script_runs.specs.Steps.{PassesForEach, fetched_from, plans_at}
use Rattle.run_archive.specs.Samples.{SampleTaken}

-- the groups, once those that are due have added what these names lead to
abbrev pub asking_by : List Group → Option (List Plan) → List RegionReading → Moment → List Plan
asking_by groups plans names now = asking (names_in names) now (plans_at groups plans now)

-- the metrics of all groups that are due, each once
abbrev pub pmids_by : List Group → Option (List Plan) → List RegionReading → Moment → List ℕ
pmids_by groups plans names now = asked_for now (asking_by groups plans names now)

-- where no metric is asked for nothing is logged
abbrev pub result_for : List ℕ → Fetched → Option Fetched
result_for [] f = None
result_for (pmid ∷ pmids) f = Some f

-- a result has sets, whose values fit, and its facts are enough
pub record IsResult (f : Fetched) : Type 0 where
  pub some : 0 < length f.result.sets
  pub fits : AllByRecursion Fits f.result.sets
  pub enough : AreEnough f.facts f.result.sets

-- what a sample shows of the metrics that are asked for, where any is
abbrev pub shown_by : List Group → Option (List Plan) → SampleTaken → Option Fetched
shown_by groups plans s = result_for (pmids_by groups plans s.names s.stamp) (fetched_from s.values (pmids_by groups plans s.names s.stamp) s.stamp)

abbrev pub with_result : Option Fetched → List Fetched → List Fetched
with_result None results = results
with_result (Some f) results = f ∷ results

-- What samples show one behind another, the groups in this state before and in that state behind them: these results. The groups
-- start at the first sample, and behind each sample its moment has passed for each group.
abbrev pub AreShown : List Group → Option (List Plan) → List SampleTaken → List Fetched → Option (List Plan) → Type 0
AreShown groups plans [] results later = (results ≡ []) × (later ≡ plans)
AreShown groups plans (s ∷ samples) results later =
    (next : List Plan) × (rest : List Fetched) × (length (pmids_by groups plans s.names s.stamp) ≤ 1024)
    × PassesForEach s.stamp (asking_by groups plans s.names s.stamp) next × (results ≡ with_result (shown_by groups plans s) rest)
    × AreShown groups (Some next) samples rest later

-- results that are logged one behind another, behind other events: the first one opens the archive
abbrev pub with_results : List Event → List Fetched → List Event
with_results events [] = events
with_results events (f ∷ results) = with_results (with_report events (report_of f)) results

-- A recording logs results one behind another, and makes the volume sure behind each.
abbrev pub with_sure_results : List Event → List Fetched → List Event
with_sure_results events [] = events
with_sure_results events (f ∷ results) = with_sure_results (with_report events (report_of f) ++ Event.synced ∷ []) results

-- the events of a recording that logged these
abbrev pub events_of : List Fetched → List Event
events_of results = with_sure_results [] results

abbrev pub items_of_results : List Fetched → List Item
items_of_results results = map (λ (f : Fetched). Sample f.result) results
