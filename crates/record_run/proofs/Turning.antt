-- The same samples, where a recording ends by want of memory or by a disk that failed.
use Rattle.std.proofs.Common.{◌≢◌, ◌⊎◌, inl, inr, ℕ, ◌≤◌, List, refl, arith}
use Rattle.pcp_base.specs.Time.{Moment}
use Rattle.pcp_base.specs.declared.result.Item.{Item}
use Rattle.pcp_model.specs.Disk.{Files}
use Rattle.region_rule.specs.Seats.{Token}
use Rattle.fetch_answers.specs.declared.fetch.Fetched.{Fetched}
use Rattle.fetch_engine.specs.declared.server.Mounted.{Mounted}
use Rattle.logging_session.specs.Events.{Event}
use Rattle.run_script.specs.declared.script.Script.{Script}
use Rattle.script_runs.specs.declared.ending.Ending.{Ending}
use Rattle.script_runs.specs.declared.ending.Ending.TheVariants as ends
use Rattle.script_runs.specs.declared.ending.LimitKind.TheVariants as kinds
use Rattle.record_run.specs.Beside.{IsSampled, StopsLogging}
use Rattle.record_run.specs.Halting.{Took}
use Rattle.record_run.specs.Recordings.{LastIsBehind}
use Rattle.record_run.specs.Stopping.{LoggingDid, LogsResults, OpensForLast, ShowsLast}
use Rattle.record_run.proofs.Undone.{logging_undone}

-- no more moments were taken than were asked for
pub took_most : (samples count : ℕ) (e : Ending) → Took samples count e → count ≤ samples
took_most samples count ends.Done took = omega (arith, took)
took_most samples count (ends.ClockEnd left) took = omega (arith, took.0)
took_most samples count (ends.ClockFault left) took = omega (arith, took.0)
took_most samples count ends.DiskFault took = took
took_most samples count (ends.Condition line) took = took
took_most samples count (ends.NotArchive file at) took = took
took_most samples count (ends.Compressed file) took = took
took_most samples count (ends.Limit what number) took = took
took_most samples count ends.NoMemory took = took
took_most samples count (ends.NotLater last) took = took
took_most samples count (ends.Changed pmid) took = took

module _ {script : Script} {server : List Mounted} {first final : List Token} {ending : Ending} {moments : List Moment} {results : List Fetched} (s : IsSampled script server first final ending moments results) (last : Ending) (stops : StopsLogging last) where
  abbrev pub stops_else : IsSampled script server first final last moments results
  stops_else = record {
    beside = s.beside;
    middle = s.middle;
    taken = s.taken;
    waiting = s.waiting;
    loaded = s.loaded;
    gathered = s.gathered;
    later = s.later;
    stands = s.stands;
    behind = s.behind;
    last = s.last;
    taken_behind = s.taken_behind;
    loaded_behind = s.loaded_behind;
    lacking = s.lacking;
    few = s.few;
    last_behind = λ done. absurd (logging_undone last stops done);
    moments_are = s.moments_are;
    logged = s.logged;
    unlogged = s.unlogged;
    are = s.are;
    one = s.one;
    stops = inr stops;
    plans = s.plans;
    shown = s.shown;
  }

  pub last_else : (samples : ℕ) → LastIsBehind samples s → LastIsBehind samples stops_else
  last_else samples l = record { others = l.others; still = l.still }

  abbrev shows_else : ShowsLast s → ShowsLast stops_else
  shows_else x = record { sample = x.sample; one = x.one; some = x.some; few = x.few }

  module _ (limit : ℕ) (left : Files) (events : List Event) (more : List Item) where
    -- what was opened for the last sample stays open, whatever ended the recording first
    abbrev MayHaveOpened : Type 0
    MayHaveOpened = LogsResults stops_else events more ⊎ OpensForLast stops_else events more

    opens_else : OpensForLast s events more → MayHaveOpened
    opens_else (x, are, none) = inr (shows_else x, are, none)

    pub did_else : (e : Ending) → e ≢ ends.DiskFault → LoggingDid s limit left e events more → MayHaveOpened
    did_else ends.Done well did = inl did
    did_else ends.DiskFault well did = absurd (well refl)
    did_else (ends.Condition line) well did = absurd did
    did_else (ends.NotArchive file at) well did = absurd did
    did_else (ends.Compressed file) well did = absurd did
    did_else (ends.Limit kinds.Sets number) well did = inl did
    did_else (ends.Limit kinds.Record number) well (x, away, are, none) = opens_else (x, are, none)
    did_else (ends.Limit kinds.Meta number) well (x, away, are, none) = opens_else (x, are, none)
    did_else (ends.Limit kinds.Index number) well (x, away, are, none) = opens_else (x, are, none)
    did_else (ends.Limit kinds.Volume number) well (x, away, are, none) = opens_else (x, are, none)
    did_else (ends.ClockEnd samples) well did = inl did
    did_else (ends.ClockFault samples) well did = inl did
    did_else ends.NoMemory well (inl did) = inl did
    did_else ends.NoMemory well (inr opens) = opens_else opens
    did_else (ends.NotLater stamp) well (x, away, are, none) = opens_else (x, are, none)
    did_else (ends.Changed pmid) well (x, away, are, none) = opens_else (x, are, none)

    pub fault_did : MayHaveOpened → LoggingDid stops_else limit left ends.DiskFault events more
    fault_did (inl logs) = inl logs
    fault_did (inr opens) = inr (inl opens)
