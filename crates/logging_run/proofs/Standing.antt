-- A run goes on with what a call leaves.
use Rattle.std.proofs.Common.{◌≡◌, inl, ℕ, ◌+◌, ◌≤◌, List, [], ◌∷◌, ◌++◌, length, None, sym, ap, ◌∙◌, subst, arith, append-nil}
use Rattle.std.specs.Prelude.{IfErr, Result}
use Rattle.std.specs.Result.{IsErrAnd}
use Rattle.std.proofs.lemmas.Result.{err_from_is_err_and}
use Rattle.pcp_base.specs.declared.file.FileId.{FileId}
use Rattle.pcp_base.specs.declared.result.Item.{Item}
use Rattle.pcp_model.specs.Disk.{CrashImage, Files, Holdings, IsSettled, contents_of}
use Rattle.pcp_outside.specs.Causes.{Rose, shown_count}
use Rattle.pcp_outside.specs.declared.disk.Disk.{Ghosts as DiskGhosts}
use Rattle.pcp_outside.specs.Devices.{LeavesOnly}
use Rattle.archive_recovery.specs.declared.outcome.Archive.{Archive}
use Rattle.archive_recovery.specs.Halfway.{MayBeHalfway}
use Rattle.archive_recovery.specs.Told.{WasRecovered}
use Rattle.logger_core.specs.declared.fault.LogFault.{LogFault}
use Rattle.logger_core.specs.declared.fault.LogFault.TheVariants.{Closed, DiskFault}
use Rattle.logger_core.specs.Reopening.{IsLeft}
use Rattle.logging_session.specs.Answers.{FlushMayAnswer}
use Rattle.logging_session.specs.ComingBack.{ComesBackTo}
use Rattle.logging_session.specs.Course.{HasKept, HasNotClosed, HasNotFlushed, HasPassedHeld, WentBy}
use Rattle.logging_session.specs.Events.{Event, acknowledged_by, behind, closing, with_report}
use Rattle.logging_session.specs.Keeping.{AreWhole, Carried, IsFailed, IsFound, IsOpen, IsWorking, Keeps, held_in, lost_in}
use Rattle.logging_session.specs.Written.{Report}
use Rattle.logging_session.proofs.Course.{begins, survives_now}
use Rattle.logging_session.proofs.Recovering.{is_left}
use Rattle.logging_run.specs.declared.fault.RunFault.{RunFault}
use Rattle.logging_run.specs.Closing.{Close, Ran}
use Rattle.logging_run.specs.Handing.{Handed, events_of, items_of_run, reports_of}
use Rattle.logging_run.specs.Named.{run_label}
use Rattle.logging_run.specs.Running.{Fails, GoesBy, IsAllSure, Rests, Runs}
use Rattle.logging_run.proofs.Events.{behind_report, grows, many_grow}
use Rattle.logging_run.proofs.Finishing.{all_after, has_failed, has_flushed, went_as}
use Rattle.logging_run.proofs.Losing.{report_sure}
use Rattle.logging_run.proofs.Places.{closed_lost, flush_fails, flush_unclosed, working_unfailed}

-- a fault that is handed on
pub handed_on : {T : Type 0} (r : Result T RunFault) (e : RunFault) (P : RunFault → Type 0) → IsErrAnd r (λ y. y ≡ e) → P e → IfErr r P
handed_on r e P was h = let p = err_from_is_err_and r was in subst (λ x. IfErr x P) (sym p.1) (subst P (sym p.2) h)

-- how many were logged, with one more
pub one_counted : (n logged next : ℕ) → logged ≡ shown_count n → next ≡ shown_count (logged + 1) → next ≡ shown_count (n + 1)
one_counted n logged next is more = omega (arith, is, more)

module _ {D : Type 0} (d : DiskGhosts D) (only_now : (disk : D) (c : Files) → d.left_since disk (d.moment disk) c → CrashImage (d.held disk) c) (limit : ℕ) (start : D) where
  -- ---- the beginning

  pub begun_so : (new : D) (archive : Archive) (run : Carried) → run.label ≡ run_label → run.limit ≡ limit → run.logged ≡ 0 → IsFound run → d.faults new ≡ d.faults start → (d.tells → WasRecovered (contents_of (d.held start)) (contents_of (d.held new)) archive)
      → (d.tells → (file : FileId) → (d.held new file).rest ≡ []) → (d.tells → d.wrapped_file start ≡ None) → (d.tells → LeavesOnly d.moment d.left_since start new (MayBeHalfway (d.held start)))
      → ((held : Holdings) → IsLeft archive held → Keeps (contents_of held) [] run held) → Runs d limit [] run start new
  begun_so new archive run label limit_is none found quiet was sure unwrapped half begun = record {
    rests = record {
      label = label;
      limit_is = limit_is;
      unfailed = working_unfailed run (inl found);
      unopened = λ closed. none;
      counted = none;
      quiet = quiet;
      told = λ tells. record {
        middle = new;
        recovered = record { archive = archive; was = was tells; unwrapped = unwrapped tells; sure = sure tells; half = half tells };
        kept = begins d (contents_of (d.held new)) only_now run new (begun (d.held new) (is_left (contents_of (d.held start)) (d.held new) archive (was tells) (sure tells)));
      };
    };
    working = inl found;
  }

  -- ---- from one call to the next

  module _ (handed : List Handed) (run is : Carried) (old new : D) (rests : Rests d limit handed run start old) (label : is.label ≡ run.label) (limit_is : is.limit ≡ run.limit) where
    pub rests_on : (next : List Handed) → (IsFailed is → ⊥) → ((IsOpen is → ⊥) → is.logged ≡ 0) → is.logged ≡ shown_count (length (reports_of next)) → d.faults new ≡ d.faults old
        → (d.tells → (left : Files) (st : D) → HasKept d left (events_of handed) st run old → HasKept d left (events_of next) st is new) → Rests d limit next is start new
    rests_on next unfailed unopened counted quiet goes = record {
      label = label ∙ rests.label;
      limit_is = limit_is ∙ rests.limit_is;
      unfailed = unfailed;
      unopened = unopened;
      counted = counted;
      quiet = quiet ∙ rests.quiet;
      told = λ tells.
          let b : GoesBy d limit handed run start old = rests.told tells in
          record { middle = b.middle; recovered = b.recovered; kept = goes tells (contents_of (d.held b.middle)) b.middle b.kept };
    }

    -- the disk failed
    pub fails_on : IsFailed is → Rose (d.faults old) (d.faults new) → (d.tells → (left : Files) (st : D) → HasKept d left (events_of handed) st run old → WentBy d run.label run.limit left (events_of handed) [] st new)
        → (d.tells → (left : Files) (st : D) → HasKept d left (events_of handed) st run old → HasPassedHeld d left (events_of handed) st is new) → Fails d limit handed is start new
    fails_on failed rose went passed = record {
      failed = failed;
      rose = subst (λ (n : ℕ). Rose n (d.faults new)) rests.quiet rose;
      told = λ tells.
          let b : GoesBy d limit handed run start old = rests.told tells in
          let left : Files = contents_of (d.held b.middle) in
          has_failed d only_now limit handed start b.middle b.recovered is (label ∙ rests.label) (limit_is ∙ rests.limit_is) new
          (went_as d only_now limit handed start b.middle b.recovered run rests.label rests.limit_is new (events_of handed) (went tells left b.middle b.kept)) (passed tells left b.middle b.kept);
    }

    -- the end: what was logged is flushed
    pub flushes : (counts_now : (disk : D) (t : ℕ) (c : Files) → t ≤ d.moment disk → CrashImage (d.held disk) c → d.left_since disk t c) → (tells : d.tells)
        → ((left : Files) (st : D) → HasKept d left (events_of handed) st run old → HasKept d left (closing (events_of handed)) st is new) → held_in is.place ≡ 0
        → ((left : Files) → Keeps left (events_of handed) run (d.held old) → IsSettled (d.held new)) → ((left : Files) → Keeps left (events_of handed) run (d.held old) → AreWhole left → AreWhole (contents_of (d.held new)))
        → Ran d limit handed start new Close.flushed
    flushes counts_now tells goes none settled whole =
        let b : GoesBy d limit handed run start old = rests.told tells in
        let left : Files = contents_of (d.held b.middle) in
        has_flushed d only_now limit handed start b.middle b.recovered is (label ∙ rests.label) (limit_is ∙ rests.limit_is) new counts_now (goes left b.middle b.kept) none (settled left b.kept.keeps) (whole left b.kept.keeps)

  -- ---- results

  -- what is held is written
  pub writes : (handed : List Handed) (run is : Carried) (old new : D) → Rests d limit handed run start old → is.label ≡ run.label → is.limit ≡ run.limit → is.logged ≡ run.logged → (IsOpen run → IsOpen is) → IsWorking is → d.faults new ≡ d.faults old
      → (d.tells → (left : Files) (events : List Event) (st : D) → HasKept d left events st run old → HasKept d left events st is new) → Runs d limit handed is start new
  writes handed run is old new rests label limit_is same stays working quiet goes = record {
    rests = rests_on handed run is old new rests label limit_is handed (working_unfailed is working) (λ closed. same ∙ rests.unopened (λ open_. closed (stays open_))) (same ∙ rests.counted) quiet (λ tells left st k. goes tells left (events_of handed) st k);
    working = working;
  }

  -- it is logged, and held
  pub logs : (handed : List Handed) (r : Report) (run is : Carried) (old new : D) → Rests d limit handed run start old → is.label ≡ run.label → is.limit ≡ run.limit → is.logged ≡ shown_count (run.logged + 1) → IsOpen is → IsWorking is → d.faults new ≡ d.faults old
      → (d.tells → (left : Files) (st : D) → HasKept d left (events_of handed) st run old → HasKept d left (with_report (events_of handed) r) st is new) → Runs d limit (handed ++ Handed.held r ∷ []) is start new
  logs handed r run is old new rests label limit_is more open_ working quiet goes = record {
    rests = rests_on handed run is old new rests label limit_is (handed ++ Handed.held r ∷ []) (working_unfailed is working) (λ closed. absurd (closed open_))
        (one_counted (length (reports_of handed)) run.logged is.logged rests.counted more ∙ ap (λ (n : ℕ). shown_count n) (sym (many_grow handed (Handed.held r)))) quiet
        (λ tells left st k. subst (λ (es : List Event). HasKept d left es st is new) (sym (grows handed (Handed.held r))) (goes tells left st k));
    working = working;
  }

  -- a write or a sync is refused by the disk
  pub flush_stops : (handed : List Handed) (run is : Carried) (old new : D) → Rests d limit handed run start old → is.label ≡ run.label → is.limit ≡ run.limit → IsWorking run → (fault : LogFault) → FlushMayAnswer run is (d.faults old) (d.faults new) fault
      → (d.tells → (left : Files) (events : List Event) (st : D) → HasKept d left events st run old → HasNotFlushed d left events st run is new fault) → (d.tells → (left : Files) (events : List Event) (st : D) → HasKept d left events st run old → fault ≡ DiskFault → HasPassedHeld d left events st is new) → Fails d limit handed is start new
  flush_stops handed run is old new rests label limit_is working fault may went passed =
      let f : (fault ≡ DiskFault) × IsFailed is × (lost_in is.place ≤ held_in run.place) × Rose (d.faults old) (d.faults new) = flush_fails run is (d.faults old) (d.faults new) fault (flush_unclosed run is (d.faults old) (d.faults new) fault working may) may in
      fails_on handed run is old new rests label limit_is f.1 f.3 (λ tells left st k. subst (λ (e : LogFault). HasNotFlushed d left (events_of handed) st run is new e) f.0 (went tells left (events_of handed) st k))
      (λ tells left st k. passed tells left (events_of handed) st k f.0)

  -- and so is the flush at the end
  pub close_stops : (handed : List Handed) (run is : Carried) (old new : D) → Rests d limit handed run start old → is.label ≡ run.label → is.limit ≡ run.limit → (run.logged ≡ 0 → ⊥) → (fault : LogFault) → FlushMayAnswer run is (d.faults old) (d.faults new) fault
      → (d.tells → (left : Files) (events : List Event) (st : D) → HasKept d left events st run old → HasNotClosed d left events st run new fault) → (d.tells → (left : Files) (events : List Event) (st : D) → HasKept d left events st run old → fault ≡ DiskFault → HasPassedHeld d left events st is new) → Fails d limit handed is start new
  close_stops handed run is old new rests label limit_is some fault may went passed =
      let open_ : fault ≡ Closed → ⊥ = λ closed. some (rests.unopened (closed_lost run rests.unfailed (subst (λ (e : LogFault). FlushMayAnswer run is (d.faults old) (d.faults new) e) closed may).0)) in
      let f : (fault ≡ DiskFault) × IsFailed is × (lost_in is.place ≤ held_in run.place) × Rose (d.faults old) (d.faults new) = flush_fails run is (d.faults old) (d.faults new) fault open_ may in
      fails_on handed run is old new rests label limit_is f.1 f.3 (λ tells left st k. (went tells left (events_of handed) st k).1) (λ tells left st k. passed tells left (events_of handed) st k f.0)

  -- and then made sure
  pub syncs : (handed : List Handed) (r : Report) (run is : Carried) (old new : D) → Rests d limit (handed ++ Handed.held r ∷ []) run start old → is.label ≡ run.label → is.limit ≡ run.limit → is.logged ≡ run.logged → (IsOpen run → IsOpen is) → IsWorking is
      → d.faults new ≡ d.faults old → (d.tells → (left : Files) (events : List Event) (st : D) → HasKept d left events st run old → HasKept d left (behind events Event.synced) st is new) → Runs d limit (handed ++ Handed.sure r ∷ []) is start new
  syncs handed r run is old new rests label limit_is same stays working quiet goes =
      let before : List Handed = handed ++ Handed.held r ∷ [] in
      let now : List Handed = handed ++ Handed.sure r ∷ [] in
      let events_are : behind (events_of before) Event.synced ≡ events_of now =
      ap (λ (es : List Event). behind es Event.synced) (grows handed (Handed.held r)) ∙ behind_report (events_of handed) r Event.synced ∙ sym (grows handed (Handed.sure r)) in
      let many : length (reports_of before) ≡ length (reports_of now) = many_grow handed (Handed.held r) ∙ sym (many_grow handed (Handed.sure r)) in
      record {
        rests = rests_on before run is old new rests label limit_is now (working_unfailed is working) (λ closed. same ∙ rests.unopened (λ open_. closed (stays open_)))
            (same ∙ rests.counted ∙ ap (λ (n : ℕ). shown_count n) many) quiet
            (λ tells left st k. subst (λ (es : List Event). HasKept d left es st is new) events_are (goes tells left (events_of before) st k));
        working = working;
      }

  -- and then all is settled
  pub kept_settles : (handed : List Handed) (run : Carried) (old new : D) → Rests d limit handed run start old → d.tells → ((left : Files) → Keeps left (events_of handed) run (d.held old) → IsSettled (d.held new)) → IsSettled (d.held new)
  kept_settles handed run old new rests tells settled = let b : GoesBy d limit handed run start old = rests.told tells in settled (contents_of (d.held b.middle)) b.kept.keeps

  -- so that a crash takes nothing of it
  pub all_sure : (counts_now : (disk : D) (t : ℕ) (c : Files) → t ≤ d.moment disk → CrashImage (d.held disk) c → d.left_since disk t c) (handed : List Handed) (r : Report) (run : Carried) (new : D) → d.tells → Rests d limit (handed ++ Handed.sure r ∷ []) run start new → IsSettled (d.held new)
      → IsAllSure d (handed ++ Handed.sure r ∷ []) start new
  all_sure counts_now handed r run new tells rests settled =
      let now : List Handed = handed ++ Handed.sure r ∷ [] in
      let b : GoesBy d limit now run start new = rests.told tells in
      let left : Files = contents_of (d.held b.middle) in
      record {
        settled = settled;
        survive = λ image crash.
            let comes : ComesBackTo (items_of_run now ++ []) (acknowledged_by (events_of now)) left image = survives_now d left counts_now run.label run.limit (events_of now) [] b.middle new b.kept.went image crash in
            all_after d only_now limit now start b.middle b.recovered (items_of_run now) image
            (subst (λ (n : ℕ). ComesBackTo (items_of_run now) n left image) (report_sure handed r) (subst (λ (items : List Item). ComesBackTo items (acknowledged_by (events_of now)) left image) (append-nil (items_of_run now)) comes));
      }
