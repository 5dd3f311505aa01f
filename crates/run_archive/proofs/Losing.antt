-- A crash loses at most one of the results that a recording has logged by then.
use Rattle.std.proofs.Common.{◌≡◌, ◌≢◌, ⊎_elim, List, [], ◌∷◌, ◌++◌, refl, sym, subst}
use Rattle.fetch_answers.specs.declared.fetch.Fetched.{Fetched}
use Rattle.logging_session.specs.Crashes.{LosesAtMostOne}
use Rattle.logging_session.specs.Events.{Event, items_by, with_report}
use Rattle.logging_session.specs.Written.{Report}
use Rattle.logging_session.proofs.Losing.{AllSure, all_synced, loses_flushed, loses_none, loses_report, loses_synced}
use Rattle.script_runs.specs.declared.ending.Ending.{Ending}
use Rattle.script_runs.specs.declared.ending.Ending.TheVariants as ends
use Rattle.script_runs.specs.Archives.{report_of}
use Rattle.run_archive.specs.Outcomes.{ended}
use Rattle.run_archive.specs.Shown.{events_of, with_sure_results}
use Rattle.run_archive.proofs.Outcomes.{ended_closing, ended_failing, is_failing}

loses_with : (events : List Event) (results : List Fetched) → LosesAtMostOne events → AllSure events → LosesAtMostOne (with_sure_results events results) × AllSure (with_sure_results events results)
loses_with events [] before sure = (before, sure)
loses_with events (f ∷ results) before sure =
    let reported : List Event = with_report events (report_of f) in
    loses_with (reported ++ Event.synced ∷ []) results (loses_synced reported (loses_report events (report_of f) before sure)) (all_synced reported)

-- each of them is made sure
pub loses_results : (results : List Fetched) → LosesAtMostOne (events_of results)
loses_results results = (loses_with [] results loses_none refl).0

-- and one more isn't
pub loses_last : (results : List Fetched) (r : Report) → LosesAtMostOne (with_report (events_of results) r)
loses_last results r = let both = loses_with [] results loses_none refl in loses_report (events_of results) r both.0 both.1

-- ---- the end

pub loses_ended : (ending : Ending) (events : List Event) → LosesAtMostOne events → LosesAtMostOne (ended ending events)
loses_ended ending events before = ⊎_elim (λ (is : ending ≡ ends.DiskFault). subst LosesAtMostOne (sym (ended_failing ending events is)) before)
    (λ (other : ending ≢ ends.DiskFault). subst LosesAtMostOne (sym (ended_closing ending events other)) (loses_flushed (items_by events) events before))
    (is_failing ending)
