-- What a run made of files: recovery, what was logged, and the flush at its end.
use Rattle.std.proofs.Common.{◌≡◌, ◌≢◌, ℕ, ◌+◌, ◌≤◌, List, [], ◌++◌, length, refl, sym, ◌∙◌, subst, arith, append-nil, length-append}
use Rattle.pcp_base.specs.declared.result.Item.{Item}
use Rattle.pcp_model.specs.Archive.{scan}
use Rattle.pcp_model.specs.Disk.{CrashImage, Files, IsSettled, contents_of}
use Rattle.pcp_model.specs.LabelFields.{LabelFields}
use Rattle.pcp_model.specs.Recovered.{Recovers, recovered_reading}
use Rattle.pcp_model.proofs.Recovered.{recovery_reads, recovery_stays}
use Rattle.pcp_outside.specs.declared.disk.Disk.{Ghosts as DiskGhosts}
use Rattle.pcp_outside.specs.Devices.{LeavesOnly}
use Rattle.pcp_outside.proofs.Crash.{weaker}
use Rattle.archive_recovery.specs.declared.outcome.RecoverFault.{RecoverFault}
use Rattle.archive_recovery.specs.declared.outcome.RecoverFault.TheVariants as recovery
use Rattle.archive_recovery.specs.Halfway.{MayBeHalfway}
use Rattle.archive_recovery.specs.RecoverFaults.{IsRecoverFault}
use Rattle.archive_recovery.proofs.Settled.{settled_begins}
use Rattle.logger_core.proofs.Calls.{no_call, run_then}
use Rattle.logging_session.specs.ComingBack.{ComesBack, ComesBackTo, MayBeAfter, start_of}
use Rattle.logging_session.specs.Course.{HasKept, HasPassed, HasPassedHeld, WentBy}
use Rattle.logging_session.specs.Crashes.{IsAllAfter}
use Rattle.logging_session.specs.Events.{Event, LeadFrom, acknowledged_by, closing, items_by}
use Rattle.logging_session.specs.Keeping.{AreWhole, Carried, held_in, lost_in}
use Rattle.logging_session.specs.Written.{Stand}
use Rattle.logging_session.proofs.ComeBack.{fewer, same_left}
use Rattle.logging_session.proofs.Course.{survives_now, survives_since}
use Rattle.logging_session.proofs.Losing.{closing_sure}
use Rattle.logging_session.proofs.Recovering.{later_comes, recovered_so, recovering_comes}
use Rattle.logging_session.proofs.Sessions.{kept_files}
use Rattle.logging_run.specs.declared.fault.RunFault.{RunFault}
use Rattle.logging_run.specs.declared.fault.RunFault.TheVariants as faults
use Rattle.logging_run.specs.Closing.{Close, Ran}
use Rattle.logging_run.specs.Handing.{Handed, events_of}
use Rattle.logging_run.specs.Named.{run_label}
use Rattle.logging_run.specs.Recovering.{HasRecovered, IsUnrecovered, fault_of}
use Rattle.logging_run.proofs.Events.{closing_items}

pub recovery_rose : (fault : RecoverFault) → fault_of fault ≡ faults.DiskFault → fault ≡ recovery.DiskFault
recovery_rose (recovery.Compressed file) is = cc
recovery_rose (recovery.NotArchive file at) is = cc
recovery_rose recovery.DiskFault is = refl
recovery_rose recovery.NoMemory is = cc

module _ {D : Type 0} (d : DiskGhosts D) (only_now : (disk : D) (c : Files) → d.left_since disk (d.moment disk) c → CrashImage (d.held disk) c) where
  -- ---- files that aren't recovered

  is_unrecovered : (old new : D) (fault : RecoverFault) → IsRecoverFault (d.wrapped_file old) (contents_of (d.held old)) fault → (fault ≢ recovery.DiskFault → d.held new ≡ d.held old) → LeavesOnly d.moment d.left_since old new (MayBeHalfway (d.held old)) → IsUnrecovered d old (fault_of fault) new
  is_unrecovered old new (recovery.Compressed file) why kept half = (why, kept (λ e. cc))
  is_unrecovered old new (recovery.NotArchive file at) why kept half = (why, kept (λ e. cc))
  is_unrecovered old new recovery.DiskFault why kept half = half
  is_unrecovered old new recovery.NoMemory why kept half = kept (λ e. cc)

  ran_nothing : (limit : ℕ) (old new : D) (fault : RunFault) → IsUnrecovered d old fault new → LeavesOnly d.moment d.left_since old new (MayBeHalfway (d.held old)) → Ran d limit [] old new (Close.unrecovered fault)
  ran_nothing limit old new fault is half = record {
    any_moment = weaker d.moment d.left_since d.held old new (MayBeHalfway (d.held old)) (MayBeAfter [] 0 (d.held old)) half (recovering_comes (d.held old) []);
    came = (is, refl);
  }

  pub unrecovered_so : (limit : ℕ) (old new : D) (fault : RecoverFault) (e : RunFault) → e ≡ fault_of fault → IsRecoverFault (d.wrapped_file old) (contents_of (d.held old)) fault → (fault ≢ recovery.DiskFault → d.held new ≡ d.held old)
      → LeavesOnly d.moment d.left_since old new (MayBeHalfway (d.held old)) → Ran d limit [] old new (Close.unrecovered e)
  unrecovered_so limit old new fault e so why kept half = subst (λ (f : RunFault). Ran d limit [] old new (Close.unrecovered f)) (sym so) (ran_nothing limit old new (fault_of fault) (is_unrecovered old new fault why kept half) half)

  -- memory was refused before the files were looked at
  pub unbegun : (limit : ℕ) (old : D) (e : RunFault) → e ≡ faults.NoMemory → Ran d limit [] old old (Close.unrecovered e)
  unbegun limit old e so = subst (λ (f : RunFault). Ran d limit [] old old (Close.unrecovered f)) (sym so)
      (ran_nothing limit old old faults.NoMemory refl (no_call d only_now old (MayBeHalfway (d.held old)) (λ image crash. λ settled reading reads. settled_begins (d.held old) reading image settled reads crash)))

  -- ---- over what recovery left

  module _ (limit : ℕ) (handed : List Handed) (old mid : D) (h : HasRecovered d old mid) where
    abbrev first : Files
    first = contents_of (d.held old)

    abbrev left : Files
    left = contents_of (d.held mid)

    abbrev events : List Event
    events = events_of handed

    left_whole : AreWhole left
    left_whole = (recovered_reading first h.was.reading, recovery_reads first left h.was.reading h.was.was h.was.recovered, recovery_stays first left h.was.reading h.was.was h.was.recovered)

    -- what comes back with all items comes back so to the start
    pub all_after : (items : List Item) (image : Files) → ComesBackTo items (length items) left image → IsAllAfter items first image
    all_after items image comes = λ r reads again recovered.
        let so : Recovers first r left = recovered_so first left h.archive h.was r reads in
        let enough : length (scan r ++ items) ≤ length (scan r) + length items = omega (arith, length-append (scan r) items) in
        subst (λ (f : Files). ComesBack (start_of first r f) (scan r ++ items) (length (scan r ++ items)) image) (sym (same_left first again left r recovered so))
        (fewer (start_of first r left) (scan r ++ items) (length (scan r) + length items) (length (scan r ++ items)) image enough (comes first r reads so))

    -- a crash since then, and since the start
    ran_moment : (new : D) (items : List Item) → LeavesOnly d.moment d.left_since mid new (ComesBackTo items 0 left) → LeavesOnly d.moment d.left_since old new (MayBeAfter items 0 (d.held old))
    ran_moment new items since =
        run_then d only_now old mid new (MayBeAfter items 0 (d.held old)) (MayBeHalfway (d.held old)) (ComesBackTo items 0 left) h.half since (recovering_comes (d.held old) items) (later_comes (d.held old) (d.held mid) h.archive h.was items 0)

    went_moment : (new : D) (es : List Event) → items_by es ≡ items_by events → WentBy d run_label limit left es [] mid new → LeavesOnly d.moment d.left_since old new (MayBeAfter (items_by events) 0 (d.held old))
    went_moment new es same went = ran_moment new (items_by events)
        (subst (λ (items : List Item). LeavesOnly d.moment d.left_since mid new (ComesBackTo items 0 left)) (append-nil (items_by es) ∙ same) (survives_since d left run_label limit es [] mid new went))

    module _ (s : Carried) (label : s.label ≡ run_label) (limit_is : s.limit ≡ limit) (new : D) where
      abbrev pub WentAs : List Event → Type 0
      WentAs es = WentBy d s.label s.limit left es [] mid new

      pub went_as : (es : List Event) → WentAs es → WentBy d run_label limit left es [] mid new
      went_as es went = subst (λ (l : LabelFields). WentBy d l limit left es [] mid new) label (subst (λ (n : ℕ). WentBy d s.label n left es [] mid new) limit_is went)

      lead_as : (es : List Event) (stand : Stand) → LeadFrom s.label s.limit left es stand → LeadFrom run_label limit left es stand
      lead_as es stand lead = subst (λ (l : LabelFields). LeadFrom l limit left es stand) label (subst (λ (n : ℕ). LeadFrom s.label n left es stand) limit_is lead)

      passed_as : (done : List Event) (items : List Item) → HasPassed d s.label s.limit left done items mid new → HasPassed d run_label limit left done items mid new
      passed_as done items passed = subst (λ (l : LabelFields). HasPassed d l limit left done items mid new) label (subst (λ (n : ℕ). HasPassed d s.label n left done items mid new) limit_is passed)

      -- what was logged is flushed
      pub has_flushed : (counts_now : (disk : D) (t : ℕ) (c : Files) → t ≤ d.moment disk → CrashImage (d.held disk) c → d.left_since disk t c) → HasKept d left (closing events) mid s new → held_in s.place ≡ 0 → IsSettled (d.held new)
          → (AreWhole left → AreWhole (contents_of (d.held new))) → Ran d limit handed old new Close.flushed
      has_flushed counts_now k none settled whole =
          let went : WentBy d run_label limit left (closing events) [] mid new = went_as (closing events) k.went in
          record {
            any_moment = went_moment new (closing events) (closing_items events) went;
            came = record {
              middle = mid;
              recovered = h;
              went = went;
              files = record { stand = k.keeps.stand; lead = lead_as (closing events) k.keeps.stand k.keeps.lead; are = kept_files left (closing events) s (d.held new) k.keeps none };
              settled = settled;
              whole = whole left_whole;
              survive = λ image crash.
                  let comes : ComesBackTo (items_by (closing events) ++ []) (acknowledged_by (closing events)) left image = survives_now d left counts_now run_label limit (closing events) [] mid new went image crash in
                  all_after (items_by events) image (subst (λ (n : ℕ). ComesBackTo (items_by events) n left image) (closing_sure events)
                  (subst (λ (items : List Item). ComesBackTo items (acknowledged_by (closing events)) left image) (append-nil (items_by (closing events)) ∙ closing_items events) comes));
            };
          }

      -- the disk failed
      pub has_failed : WentBy d run_label limit left events [] mid new → HasPassedHeld d left events mid s new → Ran d limit handed old new (Close.failed (lost_in s.place))
      has_failed went p =
          record {
            any_moment = went_moment new events refl went;
            came = record { middle = mid; recovered = h; went = went; done = p.done; gone = p.lost; is = p.is; many = p.many; passed = passed_as p.done (items_by events) p.passed };
          }
