-- A recording over any files, which are recovered first.
use Rattle.std.proofs.Common.{◌≡◌, ◌≢◌, ◌⊎◌, inl, inr, ℕ, ◌≤◌, List, [], length, None, refl, sym, ap, ◌∙◌, subst, arith}
use Rattle.pcp_base.specs.Time.{Moment}
use Rattle.pcp_base.specs.declared.file.FileId.{FileId}
use Rattle.pcp_model.specs.Disk.{CrashImage, Files, contents_of}
use Rattle.pcp_outside.specs.declared.clocks.Clock.{Ghosts as ClockGhosts}
use Rattle.pcp_outside.specs.declared.disk.Disk.{Ghosts as DiskGhosts}
use Rattle.pcp_outside.specs.Devices.{LeavesOnly}
use Rattle.region_rule.specs.Seats.{Token}
use Rattle.archive_recovery.specs.declared.outcome.Archive.{Archive}
use Rattle.archive_recovery.specs.declared.outcome.RecoverFault.{RecoverFault}
use Rattle.archive_recovery.specs.declared.outcome.RecoverFault.TheVariants as recovery
use Rattle.archive_recovery.specs.Halfway.{MayBeHalfway}
use Rattle.archive_recovery.specs.RecoverFaults.{IsRecoverFault}
use Rattle.archive_recovery.specs.Told.{WasRecovered}
use Rattle.fetch_answers.specs.declared.fetch.Fetched.{Fetched}
use Rattle.fetch_engine.specs.declared.server.Mounted.{Mounted}
use Rattle.logging_session.proofs.Losing.{loses_none}
use Rattle.run_script.specs.declared.script.Script.{Script}
use Rattle.script_runs.specs.declared.ending.Ending.{Ending}
use Rattle.script_runs.specs.declared.ending.Ending.TheVariants as ends
use Rattle.run_archive.specs.declared.replayed.Replayed.{Replayed}
use Rattle.run_archive.specs.Outcomes.{RunsOnFiles, ended_by}
use Rattle.run_archive.proofs.Beginning.{told_left}
use Rattle.run_archive.proofs.Losing.{loses_ended}
use Rattle.run_archive.proofs.Outcomes.{unbegun, unrecovered, unrecovered_wants, went_on}
use Rattle.record_run.specs.Beside.{Beside}
use Rattle.record_run.specs.Halting.{HasLeft, IsRecorded}
use Rattle.record_run.specs.Recordings.{Counts, IsRecording, RecordsFiles}
use Rattle.record_run.specs.Stopping.{LoggingDid, WhyStopped}
use Rattle.record_run.proofs.Losing.{did_loses}

-- what recovery made
pub record WasDone {D : Type 0} (d : DiskGhosts D) (old mid : D) (archive : Archive) : Type 0 where
  pub unwrapped : d.wrapped_file old ≡ None
  pub w : WasRecovered (contents_of (d.held old)) (contents_of (d.held mid)) archive
  pub sure : (file : FileId) → (d.held mid file).rest ≡ []
  pub half : LeavesOnly d.moment d.left_since old mid (MayBeHalfway (d.held old))

module _ {C D : Type 0} (c : ClockGhosts C) (d : DiskGhosts D) (only_now : (disk : D) (files : Files) → d.left_since disk (d.moment disk) files → CrashImage (d.held disk) files)
    (counts_now : (disk : D) (t : ℕ) (files : Files) → t ≤ d.moment disk → CrashImage (d.held disk) files → d.left_since disk t files)
    (clock_was clock_is : C) (script : Script) (limit samples : ℕ) (server : List Mounted) (first final : List Token) (old : D) (r : Replayed) where
  abbrev Records : C → D → Type 0
  Records clock new = IsRecording c d clock_was clock old new script limit samples server first final r

  -- ---- over what recovery left

  module _ (mid new : D) (archive : Archive) (f : IsRecorded c d clock_was clock_is archive mid new script limit samples server first final r r.ending) where
    files_are : WasDone d old mid archive → d.tells → RecordsFiles d limit old new f.beside.sampled
    files_are done tells =
        let left : Files = contents_of (d.held mid) in
        let l : HasLeft d limit left mid new r.ending (LoggingDid f.beside.sampled limit left r.ending) = f.told tells (told_left d only_now old mid archive done.w done.sure) in
        record {
          events = l.events;
          more = l.more;
          on = went_on d only_now counts_now limit ((f.moments ≡ []) × (f.results ≡ [])) (λ left. LoggingDid f.beside.sampled limit left r.ending l.events l.more) old mid archive done.unwrapped done.w done.sure done.half l.events l.more new r.ending l.finished l.did;
          loses_one = loses_ended r.ending l.events (did_loses f.beside.sampled limit left l.events l.more r.ending l.did);
        }

    pub record_ended : (d.tells → WasDone d old mid archive) → Records clock_is new
    record_ended done = record {
      moments = f.moments;
      results = f.results;
      beside = f.beside;
      counted = f.counted;
      counts = f.counts;
      at_last = f.at_last;
      clock = f.clock;
      why = f.why;
      told = λ tells. files_are (done tells) tells;
    }

  -- ---- nothing was recorded

  module _ (new : D) (some_samples : 1 ≤ samples) (beside : Beside script server first final r.ending [] []) (nothing : r.output ≡ []) (none : r.logged ≡ 0) where
    abbrev FilesAre : Type 0
    FilesAre = RecordsFiles d limit old new beside.sampled

    abbrev RanNothing : Type 0
    RanNothing = (◌≡◌ {A = List Moment} [] []) × (◌≡◌ {A = List Fetched} [] [])

    abbrev Did : Files → Type 0
    Did left = LoggingDid beside.sampled limit left r.ending [] []

    refused_as : (e : Ending) → r.ending ≡ e → Counts samples [] [] r e → WhyStopped beside.sampled e → (d.tells → FilesAre) → Records clock_was new
    refused_as e is counts why files = record {
      moments = [];
      results = [];
      beside = beside;
      counted = none;
      counts = subst (λ (x : Ending). Counts samples [] [] r x) (sym is) counts;
      at_last = λ all. absurd (omega (arith, some_samples, all));
      clock = λ tells. refl;
      why = subst (λ (x : Ending). WhyStopped beside.sampled x) (sym is) why;
      told = files;
    }

    abbrev none_taken : (length {A = Moment} [] ≤ samples) × (r.output ≡ [])
    none_taken = (omega (arith, some_samples), nothing)

    -- memory was refused before the files were looked at
    pub record_unbegun : new ≡ old → r.ending ≡ ends.NoMemory → Records clock_was new
    record_unbegun still wants = refused_as ends.NoMemory wants none_taken tt (λ tells. record {
      events = [];
      more = [];
      on = subst (λ (x : D). RunsOnFiles d limit [] [] old x r.ending RanNothing Did) (sym still)
          (unbegun d only_now counts_now limit RanNothing Did old r.ending wants (refl, refl));
      loses_one = loses_ended r.ending [] loses_none;
    })

    module _ (half : d.tells → LeavesOnly d.moment d.left_since old new (MayBeHalfway (d.held old))) (fault : RecoverFault) (cause : d.tells → IsRecoverFault (d.wrapped_file old) (contents_of (d.held old)) fault)
        (same : d.tells → fault ≢ recovery.DiskFault → d.held new ≡ d.held old) where
      by_fault : r.ending ≡ ended_by fault → d.tells → FilesAre
      by_fault is tells = record {
        events = [];
        more = [];
        on = unrecovered d only_now counts_now limit RanNothing Did old new fault r.ending is (cause tells) (same tells) (half tells) (refl, refl);
        loses_one = loses_ended r.ending [] loses_none;
      }

      by_want : fault ≢ recovery.DiskFault → r.ending ≡ ends.NoMemory → Records clock_was new
      by_want other wants = refused_as ends.NoMemory wants none_taken tt (λ tells. record {
        events = [];
        more = [];
        on = unrecovered_wants d only_now counts_now limit RanNothing Did old new r.ending wants (same tells other) (half tells) (refl, refl);
        loses_one = loses_ended r.ending [] loses_none;
      })

      fault_as : (e : Ending) → ended_by fault ≡ e → Counts samples [] [] r e → WhyStopped beside.sampled e → r.ending ≡ ended_by fault → Records clock_was new
      fault_as e same_end counts why is = refused_as e (is ∙ same_end) counts why (by_fault is)

      by_cases : (f : RecoverFault) → fault ≡ f → r.ending ≡ ended_by fault → Records clock_was new
      by_cases (recovery.Compressed file) is_fault is = fault_as (ends.Compressed file) (ap (λ (f : RecoverFault). ended_by f) is_fault) none_taken tt is
      by_cases (recovery.NotArchive file at) is_fault is = fault_as (ends.NotArchive file at) (ap (λ (f : RecoverFault). ended_by f) is_fault) none_taken tt is
      by_cases recovery.DiskFault is_fault is = fault_as ends.DiskFault (ap (λ (f : RecoverFault). ended_by f) is_fault) none_taken tt is
      by_cases recovery.NoMemory is_fault is = fault_as ends.NoMemory (ap (λ (f : RecoverFault). ended_by f) is_fault) none_taken tt is

      pub record_refused : (r.ending ≡ ended_by fault) ⊎ ((ended_by fault ≢ ends.DiskFault) × (r.ending ≡ ends.NoMemory)) → Records clock_was new
      record_refused (inl is) = by_cases fault refl is
      record_refused (inr (other, wants)) = by_want (λ is_fault. other (ap (λ (f : RecoverFault). ended_by f) is_fault)) wants
