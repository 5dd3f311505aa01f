-- All facts of a call that pulls follow from how it ends.
use Rattle.std.proofs.Common.{◌≡◌, ℕ, Ok}
use Rattle.pcp_outside.specs.Sides.{SinkSide}
use Rattle.logging_run.specs.Laws.{ItemsAreReports, SureRunsLoseAtMostOne, TakenIsNotTurnedAway, TurnedAwayForOne}
use Rattle.pm_pulling.specs.Ends.{CallSide, Ends, EndsDone}
use Rattle.pm_pulling.specs.Facts.{Facts}
use Rattle.pm_pulling.proofs.Completes.{RefusesNone, completes, told_peer}
use Rattle.pm_pulling.proofs.Endings.{Seen, is_done, seen}
use Rattle.pm_pulling.proofs.Facts.{archive_fault_is_exact, disk_run, failed_at, peer_only, reading, run_is_exact, sampled, talked, turned_away, unrun_at, usage_is_exact, write_fault}
use Rattle.pm_pulling.proofs.Kept.{OnlyNow, any_moment, has_filed, keeps_all, settles, unread, wanting}
use Rattle.pm_pulling.proofs.Standing.{stands_so}

module _ {D : Type 0} (c : CallSide D) (k : SinkSide) (items_are : ItemsAreReports) (loses : SureRunsLoseAtMostOne) (refuses_none : RefusesNone) (taken : TakenIsNotTurnedAway) (once : TurnedAwayForOne) (only_now : OnlyNow c k items_are loses) (status : ℕ) (e : Ends c k status) where
  abbrev saw : Seen c k status
  saw = seen c k status e

  done_quietly : EndsDone c k → (c.pull.reply.faults_after ≡ c.pull.reply.faults) × (c.pull.request.faults_after ≡ c.pull.request.faults) × (k.faults_after ≡ k.faults) × (c.pull.disk.faults c.pull.disk_is ≡ c.pull.disk.faults c.pull.disk_was)
  done_quietly ended =
      let stood = stands_so c.pull ended.ran.asked (Ok tt) ended.ran.pulled ended.ran.pulled.why.0 in (stood.source_stands, stood.sink_stands, ended.quiet, ended.ran.pulled.why.3.quiet)

  pub facts : Facts c k status
  facts = record {
    ends = e;
    done = is_done c k status e;
    quiet = λ h. done_quietly (is_done c k status e h);
    usage = usage_is_exact c k status saw;
    reading = λ h. reading c k status h saw;
    write_fault = λ h. write_fault c k status h saw;
    disk_fault = λ h. (disk_run c k status h saw).pulled.why.0;
    archive_fault = archive_fault_is_exact c k items_are loses status saw;
    run_refused = run_is_exact c k refuses_none taken once status saw;
    peer = record { only = λ h. peer_only c k status h saw; always = λ bad. told_peer c k refuses_none bad status saw };
    unrun = λ h. unrun_at c k status saw h;
    dialogue = talked c k status saw;
    sampled = λ h. sampled c k status saw (is_done c k status e) h;
    files = λ had. has_filed c k items_are loses status saw had;
    wanting = λ h. wanting c k items_are loses status h saw;
    failed = λ h. failed_at c k items_are loses status h saw;
    turned_away = λ h tells. (turned_away c k status h saw).2 tells;
    settled = λ five tells settled. settles c k items_are loses status saw five tells settled;
    any_moment = any_moment c k items_are loses only_now status saw;
    unread = unread c k items_are loses only_now status saw;
    kept = λ h tells. keeps_all c k items_are loses (is_done c k status e h).ran tells;
    completes = λ good. completes c k refuses_none good status saw;
  }
