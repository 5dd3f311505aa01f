-- All facts of a call that extracts follow from how it ends.
use Rattle.std.proofs.Common.{◌≡◌, ℕ}
use Rattle.pcp_outside.specs.Sides.{SinkSide}
use Rattle.archive_loading.proofs.Looking.{OnlyNow}
use Rattle.logging_run.specs.Laws.{ItemsAreReports, TurnedAwayForOne}
use Rattle.log_extract.specs.Laws.{AllIsMerged, ReportsAreMerged}
use Rattle.log_extract.specs.Extracting.{AreStill}
use Rattle.pm_extracting.specs.Ends.{CallSide, Ends, EndsDone}
use Rattle.pm_extracting.specs.Facts.{Facts}
use Rattle.pm_extracting.proofs.Barred.{archive_fault_is_exact, soundness_is_exact}
use Rattle.pm_extracting.proofs.Completes.{RefusesNone, completes, told_away, told_unfit}
use Rattle.pm_extracting.proofs.Endings.{Seen, seen}
use Rattle.pm_extracting.proofs.Facts.{changed, clashes, failed, is_done, lacks, limit, not_later, unrun_at, unsound, usage_is_exact, write_fault}
use Rattle.pm_extracting.proofs.Kept.{any_moment, gone, kept_by, settles, sources, unread, wanting}

module _ {A B D : Type 0} (c : CallSide A B D) (k : SinkSide) (items_are : ItemsAreReports) (merged : ReportsAreMerged) (whole : AllIsMerged) (refuses_none : RefusesNone) (once : TurnedAwayForOne)
    (first_now : OnlyNow c.extract.first) (second_now : OnlyNow c.extract.second) (only_now : OnlyNow c.extract.disk) (status : ℕ) (e : Ends c k status) where
  abbrev saw : Seen c k status
  saw = seen c k status e

  done_quietly : EndsDone c k → AreStill c.extract × (c.extract.disk.faults c.extract.disk_is ≡ c.extract.disk.faults c.extract.disk_was) × (k.faults_after ≡ k.faults)
  done_quietly ended = let extracted = ended.logged.ran.extracted in (extracted.quiet, extracted.why.1.1.quiet, ended.quiet)

  pub facts : Facts c k status
  facts = record {
    ends = e;
    done = is_done c k whole status e;
    quiet = λ h. done_quietly (is_done c k whole status e h);
    usage = usage_is_exact c k status saw;
    write_fault = λ h. write_fault c k whole status h saw;
    disk_fault = λ h. (failed c k items_are merged status h saw).0;
    archive_fault = archive_fault_is_exact c k status saw;
    unsound = soundness_is_exact c k status saw;
    run_refused = record {
      limit = λ h. limit c k status h saw;
      not_later = λ h. not_later c k status h saw;
      changed = λ h. changed c k status h saw;
      always = λ fault known untaken. told_away c k refuses_none once fault known untaken status saw;
    };
    merge_refused = record {
      lacks = λ h. lacks c k status h saw;
      clashes = λ h. clashes c k status h saw;
      always = λ fault unfit. told_unfit c k refuses_none once fault unfit status saw;
    };
    unrun = λ h. unrun_at c k status saw h;
    sources = sources c k items_are merged first_now second_now status saw;
    untouched = λ h. (unsound c k status h saw).1;
    files = λ had. (gone c k items_are merged status saw had).0;
    wanting = λ h. wanting c k items_are merged status h saw;
    failed = λ h. (failed c k items_are merged status h saw).1;
    still = λ had. (gone c k items_are merged status saw had).1;
    settled = λ five tells settled. settles c k items_are merged status saw five tells settled;
    any_moment = any_moment c k items_are merged only_now status saw;
    unread = unread c k items_are merged only_now status saw;
    kept = λ h tells. kept_by c k items_are merged (is_done c k whole status e h).logged tells;
    completes = λ good. completes c k refuses_none once good status saw;
  }
