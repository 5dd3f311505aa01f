-- What a run made of files: recovery, what was logged, and the flush at its end.
use Rattle.std.proofs.Common.{◌≡◌, ◌≢◌, ◌⊎◌, ⊎_elim, inl, inr, ℕ, ◌+◌, ◌≤◌, List, [], ◌∷◌, ◌++◌, length, None, refl, sym, ap, ◌∙◌, subst, arith, append-nil, length-append}
use Rattle.pcp_base.specs.declared.file.FileId.{FileId}
use Rattle.pcp_base.specs.declared.result.Item.{Item}
use Rattle.pcp_model.specs.Archive.{scan}
use Rattle.pcp_model.specs.Disk.{CrashImage, Files, IsSettled, contents_of}
use Rattle.pcp_model.specs.LabelFields.{LabelFields}
use Rattle.pcp_model.specs.Recovered.{Recovers, recovered_reading}
use Rattle.pcp_model.proofs.Recovered.{recovery_reads, recovery_stays}
use Rattle.pcp_outside.specs.declared.disk.Disk.{Ghosts as DiskGhosts}
use Rattle.pcp_outside.specs.Devices.{LeavesOnly}
use Rattle.pcp_outside.proofs.Crash.{weaker}
use Rattle.archive_recovery.specs.declared.outcome.Archive.{Archive}
use Rattle.archive_recovery.specs.declared.outcome.RecoverFault.{RecoverFault}
use Rattle.archive_recovery.specs.declared.outcome.RecoverFault.TheVariants as recovery
use Rattle.archive_recovery.specs.Halfway.{MayBeHalfway}
use Rattle.archive_recovery.specs.RecoverFaults.{IsRecoverFault}
use Rattle.archive_recovery.specs.Told.{WasRecovered}
use Rattle.archive_recovery.proofs.Settled.{settled_begins}
use Rattle.logger_core.proofs.Calls.{no_call, run_then}
use Rattle.logging_session.specs.ComingBack.{ComesBack, ComesBackTo, MayBeAfter, start_of}
use Rattle.logging_session.specs.Course.{WentBy}
use Rattle.logging_session.specs.Crashes.{IsAllAfter}
use Rattle.logging_session.specs.Events.{Event, LeadFrom, acknowledged_by, closing, flushed_behind, items_by}
use Rattle.logging_session.specs.Keeping.{AreWhole, Carried, held_in}
use Rattle.logging_session.specs.Written.{Stand}
use Rattle.logging_session.proofs.ComeBack.{fewer, same_left}
use Rattle.logging_session.proofs.Course.{survives_now, survives_since}
use Rattle.logging_session.proofs.Events.{items_more}
use Rattle.logging_session.proofs.Losing.{closing_sure}
use Rattle.logging_session.proofs.Recovering.{later_comes, recovered_so, recovering_comes}
use Rattle.logging_session.proofs.Sessions.{kept_files}
use Rattle.script_runs.specs.declared.ending.Ending.{Ending}
use Rattle.script_runs.specs.declared.ending.Ending.TheVariants as ends
use Rattle.script_runs.specs.Archives.{run_label}
use Rattle.run_archive.specs.Kept.{IsLeft, KeepsRun, OverAny}
use Rattle.run_archive.specs.Outcomes.{HasFinished, HasFlushed, IsUnrecovered, RunsOnFiles, ended, ended_by}

-- ---- the events of the end

flushed_items : (items : List Item) (events : List Event) → items_by (flushed_behind items events) ≡ items_by events
flushed_items [] events = refl
flushed_items (x ∷ items) events = items_more events Event.flushed ∙ append-nil (items_by events)

-- they log nothing
closing_items : (events : List Event) → items_by (closing events) ≡ items_by events
closing_items events = flushed_items (items_by events) events

-- ---- endings

-- the disk failed, or not
pub is_failing : (ending : Ending) → (ending ≡ ends.DiskFault) ⊎ (ending ≢ ends.DiskFault)
is_failing ends.Done = inr (λ e. cc)
is_failing (ends.Condition line) = inr (λ e. cc)
is_failing ends.DiskFault = inl refl
is_failing (ends.NotArchive file at) = inr (λ e. cc)
is_failing (ends.Compressed file) = inr (λ e. cc)
is_failing (ends.Limit what number) = inr (λ e. cc)
is_failing (ends.ClockEnd samples) = inr (λ e. cc)
is_failing (ends.ClockFault samples) = inr (λ e. cc)
is_failing ends.NoMemory = inr (λ e. cc)
is_failing (ends.NotLater last) = inr (λ e. cc)
is_failing (ends.Changed pmid) = inr (λ e. cc)

pub ended_closing : (ending : Ending) (events : List Event) → ending ≢ ends.DiskFault → ended ending events ≡ closing events
ended_closing ends.Done events other = refl
ended_closing (ends.Condition line) events other = refl
ended_closing ends.DiskFault events other = absurd (other refl)
ended_closing (ends.NotArchive file at) events other = refl
ended_closing (ends.Compressed file) events other = refl
ended_closing (ends.Limit what number) events other = refl
ended_closing (ends.ClockEnd samples) events other = refl
ended_closing (ends.ClockFault samples) events other = refl
ended_closing ends.NoMemory events other = refl
ended_closing (ends.NotLater last) events other = refl
ended_closing (ends.Changed pmid) events other = refl

pub ended_failing : (ending : Ending) (events : List Event) → ending ≡ ends.DiskFault → ended ending events ≡ events
ended_failing ending events is = ap (λ (e : Ending). ended e events) is

ended_items : (ending : Ending) (events : List Event) → items_by (ended ending events) ≡ items_by events
ended_items ending events = ⊎_elim (λ (is : ending ≡ ends.DiskFault). ap (λ (es : List Event). items_by es) (ended_failing ending events is))
    (λ (other : ending ≢ ends.DiskFault). ap (λ (es : List Event). items_by es) (ended_closing ending events other) ∙ closing_items events)
    (is_failing ending)

-- ---- the end of a run

module _ {D : Type 0} (d : DiskGhosts D) (limit : ℕ) (left : Files) (events : List Event) (more : List Item) (start : D) where
  abbrev LeadsBy : LabelFields → ℕ → Stand → Type 0
  LeadsBy l n stand = LeadFrom l n left (closing events) stand

  -- unless the disk failed the session is kept
  left_kept : (s : Carried) (disk : D) (ending : Ending) → ending ≢ ends.DiskFault → IsLeft d left start s disk events more ending → KeepsRun d left events start s disk
  left_kept s disk ends.Done other is = is
  left_kept s disk (ends.Condition line) other is = is
  left_kept s disk ends.DiskFault other is = absurd (other refl)
  left_kept s disk (ends.NotArchive file at) other is = is
  left_kept s disk (ends.Compressed file) other is = is
  left_kept s disk (ends.Limit what number) other is = is
  left_kept s disk (ends.ClockEnd samples) other is = is
  left_kept s disk (ends.ClockFault samples) other is = is
  left_kept s disk ends.NoMemory other is = is
  left_kept s disk (ends.NotLater last) other is = is
  left_kept s disk (ends.Changed pmid) other is = is

  pub kept_left : (s : Carried) (disk : D) (ending : Ending) → ending ≢ ends.DiskFault → KeepsRun d left events start s disk → IsLeft d left start s disk events more ending
  kept_left s disk ends.Done other keeps = keeps
  kept_left s disk (ends.Condition line) other keeps = keeps
  kept_left s disk ends.DiskFault other keeps = absurd (other refl)
  kept_left s disk (ends.NotArchive file at) other keeps = keeps
  kept_left s disk (ends.Compressed file) other keeps = keeps
  kept_left s disk (ends.Limit what number) other keeps = keeps
  kept_left s disk (ends.ClockEnd samples) other keeps = keeps
  kept_left s disk (ends.ClockFault samples) other keeps = keeps
  kept_left s disk ends.NoMemory other keeps = keeps
  kept_left s disk (ends.NotLater last) other keeps = keeps
  kept_left s disk (ends.Changed pmid) other keeps = keeps

  module _ (tells : d.tells) (s : Carried) (disk new : D) (ending last : Ending) where
    -- what `finish` says where it flushed
    abbrev pub Flushed : Type 0
    Flushed = last ≢ ends.DiskFault → OverAny d s disk (λ left events start.
        (now : Carried) × KeepsRun d left (closing events) start now new × (now.limit ≡ s.limit) × (held_in now.place ≡ 0) × IsSettled (d.held new) × (AreWhole left → AreWhole (contents_of (d.held new))))

    -- where the disk failed in it
    abbrev pub Fails : Type 0
    Fails = ending ≢ ends.DiskFault → last ≡ ends.DiskFault → OverAny d s disk (λ left events start. WentBy d run_label s.limit left events [] start new)

    -- and where it had failed before
    abbrev pub Failed : Type 0
    Failed = ending ≡ ends.DiskFault → (last ≡ ends.DiskFault) × (new ≡ disk)

    went_failing : last ≡ ends.DiskFault → WentBy d run_label limit left events more start new → HasFinished d limit left events more start new last
    went_failing is went = record {
      went = subst (λ (es : List Event). WentBy d run_label limit left es more start new) (sym (ended_failing last events is)) went;
      flushed = λ other. absurd (other is);
    }

    finished_kept : Flushed → Fails → s.limit ≡ limit → ending ≢ ends.DiskFault → more ≡ [] → KeepsRun d left events start s disk → HasFinished d limit left events more start new last
    finished_kept flushed fails same other none keeps = ⊎_elim
        (λ (is : last ≡ ends.DiskFault). went_failing is
        (subst (λ (items : List Item). WentBy d run_label limit left events items start new) (sym none)
        (subst (λ (n : ℕ). WentBy d run_label n left events [] start new) same (fails other is tells left events start keeps))))
        (λ (goes : last ≢ ends.DiskFault).
        let f : (now : Carried) × KeepsRun d left (closing events) start now new × (now.limit ≡ s.limit) × (held_in now.place ≡ 0) × IsSettled (d.held new) × (AreWhole left → AreWhole (contents_of (d.held new))) = flushed goes tells left events start keeps in
        let now : Carried = f.0 in
        let k : KeepsRun d left (closing events) start now new = f.1 in
        let is_limit : now.limit ≡ limit = f.2 ∙ same in
        let went : WentBy d run_label limit left (closing events) [] start new = subst (λ (l : LabelFields). WentBy d l limit left (closing events) [] start new) k.label (subst (λ (n : ℕ). WentBy d now.label n left (closing events) [] start new) is_limit k.kept.went) in
        record {
          went = subst (λ (es : List Event). WentBy d run_label limit left es more start new) (sym (ended_closing last events goes))
              (subst (λ (items : List Item). WentBy d run_label limit left (closing events) items start new) (sym none) went);
          flushed = λ never. record {
            none = none;
            files = record {
              stand = k.kept.keeps.stand;
              lead = subst (λ (l : LabelFields). LeadsBy l limit k.kept.keeps.stand) k.label (subst (λ (n : ℕ). LeadsBy now.label n k.kept.keeps.stand) is_limit k.kept.keeps.lead);
              are = kept_files left (closing events) now (d.held new) k.kept.keeps f.3;
            };
            settled = f.4;
            whole = f.5;
          };
        })
        (is_failing last)

    finished_failed : Failed → ending ≡ ends.DiskFault → WentBy d run_label limit left events more start disk → HasFinished d limit left events more start new last
    finished_failed failed is went = let f : (last ≡ ends.DiskFault) × (new ≡ disk) = failed is in went_failing f.0 (subst (λ (q : D). WentBy d run_label limit left events more start q) (sym f.1) went)

    -- a run whose archive was left so ends so
    pub has_finished : Flushed → Fails → Failed → s.limit ≡ limit → (ending ≢ ends.DiskFault → more ≡ []) → IsLeft d left start s disk events more ending → HasFinished d limit left events more start new last
    has_finished flushed fails failed same none is_left = ⊎_elim
        (λ (is : ending ≡ ends.DiskFault). finished_failed failed is
        (subst (λ (n : ℕ). WentBy d run_label n left events more start disk) same (subst (λ (e : Ending). IsLeft d left start s disk events more e) is is_left)))
        (λ (other : ending ≢ ends.DiskFault). finished_kept flushed fails same other (none other) (left_kept s disk ending other is_left))
        (is_failing ending)

-- ---- over what recovery left

module _ {D : Type 0} (d : DiskGhosts D) (only_now : (disk : D) (c : Files) → d.left_since disk (d.moment disk) c → CrashImage (d.held disk) c)
    (counts_now : (disk : D) (t : ℕ) (c : Files) → t ≤ d.moment disk → CrashImage (d.held disk) c → d.left_since disk t c) (limit : ℕ) (RanNothing : Type 0) (Did : Files → Type 0) (old : D) where
  module _ (mid : D) (archive : Archive) (unwrapped : d.wrapped_file old ≡ None) (w : WasRecovered (contents_of (d.held old)) (contents_of (d.held mid)) archive) (sure : (file : FileId) → (d.held mid file).rest ≡ [])
      (half : LeavesOnly d.moment d.left_since old mid (MayBeHalfway (d.held old))) (events : List Event) (more : List Item) (new : D) where
    abbrev first : Files
    first = contents_of (d.held old)

    abbrev left : Files
    left = contents_of (d.held mid)

    left_whole : AreWhole left
    left_whole = (recovered_reading first w.reading, recovery_reads first left w.reading w.was w.recovered, recovery_stays first left w.reading w.was w.recovered)

    -- what comes back with all items comes back so to the start
    all_after : (image : Files) → ComesBackTo (items_by events) (length (items_by events)) left image → IsAllAfter (items_by events) first image
    all_after image comes = λ r reads again recovered.
        let more : List Item = items_by events in
        let so : Recovers first r left = recovered_so first left archive w r reads in
        let enough : length (scan r ++ more) ≤ length (scan r) + length more = omega (arith, length-append (scan r) more) in
        subst (λ (f : Files). ComesBack (start_of first r f) (scan r ++ more) (length (scan r ++ more)) image) (sym (same_left first again left r recovered so))
        (fewer (start_of first r left) (scan r ++ more) (length (scan r) + length more) (length (scan r ++ more)) image enough (comes first r reads so))

    flushed_survives : (ending : Ending) → ending ≢ ends.DiskFault → more ≡ [] → WentBy d run_label limit left (ended ending events) more mid new → (image : Files) → CrashImage (d.held new) image → IsAllAfter (items_by events) first image
    flushed_survives ending other none went image crash =
        let as_closed : WentBy d run_label limit left (closing events) [] mid new =
        subst (λ (items : List Item). WentBy d run_label limit left (closing events) items mid new) none
        (subst (λ (es : List Event). WentBy d run_label limit left es more mid new) (ended_closing ending events other) went) in
        let comes : ComesBackTo (items_by (closing events) ++ []) (acknowledged_by (closing events)) left image = survives_now d left counts_now run_label limit (closing events) [] mid new as_closed image crash in
        all_after image (subst (λ (n : ℕ). ComesBackTo (items_by events) n left image) (closing_sure events)
        (subst (λ (items : List Item). ComesBackTo items (acknowledged_by (closing events)) left image) (append-nil (items_by (closing events)) ∙ closing_items events) comes))

    -- Files were recovered, and over what was left of them a run ended so.
    pub went_on : (ending : Ending) → HasFinished d limit left events more mid new ending → Did left → RunsOnFiles d limit events more old new ending RanNothing Did
    went_on ending e did = record {
      any_moment = run_then d only_now old mid new (MayBeAfter (items_by events ++ more) 0 (d.held old)) (MayBeHalfway (d.held old)) (ComesBackTo (items_by events ++ more) 0 left) half
          (subst (λ (items : List Item). LeavesOnly d.moment d.left_since mid new (ComesBackTo (items ++ more) 0 left)) (ended_items ending events) (survives_since d left run_label limit (ended ending events) more mid new e.went))
          (recovering_comes (d.held old) (items_by events ++ more)) (later_comes (d.held old) (d.held mid) archive w (items_by events ++ more) 0);
      begun = inr (
        record {
          reading = w.reading;
          was = w.was;
          unwrapped = unwrapped;
          middle = mid;
          later = half.later;
          recovered = w.recovered;
          sure = sure;
          went = e.went;
          flushed = λ other.
              let f : HasFlushed d limit left events more mid new = e.flushed other in
              record { none = f.none; files = f.files; settled = f.settled; whole = f.whole left_whole; survive = flushed_survives ending other f.none e.went };
        },
        did,
      );
    }

    -- the same, by what `finish` says
    pub went_on_to : (tells : d.tells) (s : Carried) (disk : D) (ending last : Ending) → Flushed d limit left events more mid tells s disk new ending last → Fails d limit left events more mid tells s disk new ending last
        → Failed d limit left events more mid tells s disk new ending last → s.limit ≡ limit → (ending ≢ ends.DiskFault → more ≡ []) → IsLeft d left mid s disk events more ending → Did left → RunsOnFiles d limit events more old new last RanNothing Did
    went_on_to tells s disk ending last flushed fails failed same none is_left did = went_on last (has_finished d limit left events more mid tells s disk new ending last flushed fails failed same none is_left) did

  -- ---- files that aren't recovered

  -- nothing was run
  pub runs_nothing : (new : D) (ending : Ending) → IsUnrecovered d old new ending → LeavesOnly d.moment d.left_since old new (MayBeHalfway (d.held old)) → RanNothing → RunsOnFiles d limit [] [] old new ending RanNothing Did
  runs_nothing new ending is half nothing = record {
    any_moment = weaker d.moment d.left_since d.held old new (MayBeHalfway (d.held old)) (MayBeAfter [] 0 (d.held old)) half (recovering_comes (d.held old) []);
    begun = inl (is, refl, refl, nothing);
  }

  is_unrecovered : (new : D) (fault : RecoverFault) → IsRecoverFault (d.wrapped_file old) (contents_of (d.held old)) fault → (fault ≢ recovery.DiskFault → d.held new ≡ d.held old) → LeavesOnly d.moment d.left_since old new (MayBeHalfway (d.held old)) → IsUnrecovered d old new (ended_by fault)
  is_unrecovered new (recovery.Compressed file) why kept half = (why, kept (λ e. cc))
  is_unrecovered new (recovery.NotArchive file at) why kept half = (why, kept (λ e. cc))
  is_unrecovered new recovery.DiskFault why kept half = half
  is_unrecovered new recovery.NoMemory why kept half = kept (λ e. cc)

  pub unrecovered : (new : D) (fault : RecoverFault) (ending : Ending) → ending ≡ ended_by fault → IsRecoverFault (d.wrapped_file old) (contents_of (d.held old)) fault → (fault ≢ recovery.DiskFault → d.held new ≡ d.held old)
      → LeavesOnly d.moment d.left_since old new (MayBeHalfway (d.held old)) → RanNothing → RunsOnFiles d limit [] [] old new ending RanNothing Did
  unrecovered new fault ending so why kept half nothing = runs_nothing new ending (subst (λ (e : Ending). IsUnrecovered d old new e) (sym so) (is_unrecovered new fault why kept half)) half nothing

  -- memory was refused to what ran all the same
  pub unrecovered_wants : (new : D) (ending : Ending) → ending ≡ ends.NoMemory → d.held new ≡ d.held old → LeavesOnly d.moment d.left_since old new (MayBeHalfway (d.held old)) → RanNothing → RunsOnFiles d limit [] [] old new ending RanNothing Did
  unrecovered_wants new ending so kept half nothing = runs_nothing new ending (subst (λ (e : Ending). IsUnrecovered d old new e) (sym so) kept) half nothing

  -- memory was refused before the files were looked at
  pub unbegun : (ending : Ending) → ending ≡ ends.NoMemory → RanNothing → RunsOnFiles d limit [] [] old old ending RanNothing Did
  unbegun ending so nothing =
      unrecovered_wants old ending so refl (no_call d only_now old (MayBeHalfway (d.held old)) (λ image crash. λ settled reading reads. settled_begins (d.held old) reading image settled reads crash)) nothing
