-- All facts of a call that records follow from how it ends.
use Rattle.std.proofs.Common.{◌≡◌, ℕ, [], refl, subst, arith}
use Rattle.pcp_outside.specs.Sides.{SinkSide}
use Rattle.script_runs.specs.declared.ending.Ending.TheVariants as ends
use Rattle.pm_words.specs.declared.words.Call.TheVariants as calls
use Rattle.pm_words.proofs.Asked.{reading_is_exact, usage_is_exact, write_fault}
use Rattle.pm_words.proofs.Telling.{told_by}
use Rattle.pm_recording.specs.Ends.{Ends, EndsDone, Ran}
use Rattle.pm_recording.specs.Facts.{Facts}
use Rattle.pm_recording.specs.Recording.{CallSide}
use Rattle.pm_recording.proofs.Completes.{completes}
use Rattle.pm_recording.proofs.Endings.{Seen, came_as, is_done, seen, was_done}
use Rattle.pm_recording.proofs.Exact.{all_counted, shows_last}
use Rattle.pm_recording.proofs.Facts.{archive_fault_is_exact, clock_is_exact, disk_fault_rose, limit_is_exact, opens_regions, run_is_exact, script_fault_is_exact}
use Rattle.pm_recording.proofs.Kept.{OnlyNow, any_moment, had_since, keeps_all, settles, unread}

module _ {C D : Type 0} (c : CallSide C D) (k : SinkSide) (only_now : OnlyNow c) (status : ℕ) (e : Ends c k status) where
  abbrev saw : Seen c status
  saw = seen c k status e

  done : status ≡ 0 → Ran c ends.Done
  done h = was_done c 0 refl (omega arith) (subst (Seen c) h saw)

  done_quietly : EndsDone c k → (c.source.faults_after ≡ c.source.faults) × (k.faults_after ≡ k.faults) × (c.run.disk.faults c.run.disk_is ≡ c.run.disk.faults c.run.disk_was) × (c.run.clock.faults c.run.clock_is ≡ c.run.clock.faults c.run.clock_was)
  done_quietly ended = let run = ended.ran.has.was.quiet ended.ran.ended in (ended.ran.asks.read.quiet, ended.quiet, run.0, run.1)

  pub facts : Facts c k status
  facts = record {
    ends = e;
    done = is_done c k status e;
    quiet = λ h. done_quietly (is_done c k status e h);
    usage = usage_is_exact calls.Record c.words c.source e.result status (told_by k [] e.result status e.told) (came_as c e.result e.came);
    script_fault = script_fault_is_exact c status saw;
    reading = reading_is_exact calls.Record c.words c.source e.result status (told_by k [] e.result status e.told) (came_as c e.result e.came);
    write_fault = write_fault k [] e.result status e.told;
    disk_fault = λ h. disk_fault_rose c (subst (Seen c) h saw);
    archive_fault = archive_fault_is_exact c status saw;
    limit = λ h. limit_is_exact c (subst (Seen c) h saw);
    run_refused = run_is_exact c status saw;
    clock = clock_is_exact c status saw;
    regions = opens_regions c status saw;
    exact = λ h. shows_last c (done h);
    sums = λ h. all_counted c (done h);
    completes = completes c k status e;
    settled = settles c status saw;
    any_moment = any_moment c only_now status saw;
    unread = unread c only_now status saw;
    kept = λ h. keeps_all c (done h);
    since = had_since c status saw;
  }
