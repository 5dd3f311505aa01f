-- A crash loses at most one of the results that a recording has logged by then.
use Rattle.std.proofs.Common.{inl, inr, ℕ, List, sym, subst}
use Rattle.pcp_base.specs.Time.{Moment}
use Rattle.pcp_base.specs.declared.result.Item.{Item}
use Rattle.pcp_model.specs.Disk.{Files}
use Rattle.region_rule.specs.Seats.{Token}
use Rattle.fetch_answers.specs.declared.fetch.Fetched.{Fetched}
use Rattle.fetch_engine.specs.declared.server.Mounted.{Mounted}
use Rattle.logging_session.specs.Crashes.{LosesAtMostOne}
use Rattle.logging_session.specs.Events.{Event}
use Rattle.logging_session.proofs.Losing.{loses_opening}
use Rattle.run_script.specs.declared.script.Script.{Script}
use Rattle.script_runs.specs.declared.ending.Ending.{Ending}
use Rattle.script_runs.specs.declared.ending.Ending.TheVariants as ends
use Rattle.script_runs.specs.declared.ending.LimitKind.TheVariants as kinds
use Rattle.script_runs.specs.Archives.{report_of}
use Rattle.run_archive.specs.Shown.{events_of}
use Rattle.run_archive.proofs.Losing.{loses_last, loses_results}
use Rattle.record_run.specs.Beside.{IsSampled}
use Rattle.record_run.specs.Stopping.{LeavesLastUnsure, LoggingDid, LogsResults, OpensForLast}

module _ {script : Script} {server : List Mounted} {first final : List Token} {ending : Ending} {moments : List Moment} {results : List Fetched} (sampled : IsSampled script server first final ending moments results) (limit : ℕ) (left : Files) (events : List Event) (more : List Item) where
  logs_loses : LogsResults sampled events more → LosesAtMostOne events
  logs_loses (are, none) = subst LosesAtMostOne (sym are) (loses_results results)

  opens_loses : OpensForLast sampled events more → LosesAtMostOne events
  opens_loses (x, are, none) = subst LosesAtMostOne (sym are) (loses_opening x.sample.stamp (events_of results) (loses_results results))

  unsure_loses : LeavesLastUnsure sampled events more → LosesAtMostOne events
  unsure_loses (before, last, is, are, none) = subst LosesAtMostOne (sym are) (loses_last before (report_of last))

  pub did_loses : (e : Ending) → LoggingDid sampled limit left e events more → LosesAtMostOne events
  did_loses ends.Done did = logs_loses did
  did_loses ends.DiskFault (inl did) = logs_loses did
  did_loses ends.DiskFault (inr (inl did)) = opens_loses did
  did_loses ends.DiskFault (inr (inr did)) = unsure_loses did
  did_loses (ends.Condition line) did = absurd did
  did_loses (ends.NotArchive file at) did = absurd did
  did_loses (ends.Compressed file) did = absurd did
  did_loses (ends.Limit kinds.Sets number) did = logs_loses did
  did_loses (ends.Limit kinds.Record number) (x, away, are, none) = opens_loses (x, are, none)
  did_loses (ends.Limit kinds.Meta number) (x, away, are, none) = opens_loses (x, are, none)
  did_loses (ends.Limit kinds.Index number) (x, away, are, none) = opens_loses (x, are, none)
  did_loses (ends.Limit kinds.Volume number) (x, away, are, none) = opens_loses (x, are, none)
  did_loses (ends.ClockEnd samples) did = logs_loses did
  did_loses (ends.ClockFault samples) did = logs_loses did
  did_loses ends.NoMemory (inl did) = logs_loses did
  did_loses ends.NoMemory (inr did) = opens_loses did
  did_loses (ends.NotLater stamp) (x, away, are, none) = opens_loses (x, are, none)
  did_loses (ends.Changed pmid) (x, away, are, none) = opens_loses (x, are, none)
