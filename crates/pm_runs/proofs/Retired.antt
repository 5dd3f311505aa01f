-- What `retire` does: memory for its line is wanting, recovery refuses the files, or it has mended them and the lowest volumes are emptied, or
-- why they aren't.
use Rattle.std.proofs.Common.{◌≡◌, ◌≢◌, ◌⊎◌, inl, inr, ⊎_elim, ℕ, ◌≤◌, Bool, true, false, if◌then◌else◌, List, [], None, Some, Ok, Err, refl, sym, ap, ◌∙◌, subst, arith}
use Rattle.std.specs.Prelude.{nat_lt}
use Rattle.std.proofs.lemmas.Option.{none-some}
use Rattle.pcp_base.specs.declared.file.FileId.{FileId}
use Rattle.pcp_base.specs.declared.file.FileId.TheVariants.{Meta, Index, Volume}
use Rattle.pcp_model.specs.Archive.{ArchiveReading, Reads}
use Rattle.pcp_model.specs.Disk.{CrashImage, Files, Held, Holdings, IsSettled, bytes_of, contents_of, nothing_held}
use Rattle.pcp_model.specs.LabelFields.{LabelFields}
use Rattle.pcp_model.specs.Recovered.{Recovers, recovered_reading}
use Rattle.pcp_model.proofs.OneReading.{one_reading}
use Rattle.pcp_outside.specs.Causes.{Rose}
use Rattle.pcp_outside.specs.Devices.{LeavesOnly}
use Rattle.pcp_outside.specs.declared.disk.Disk.{Ghosts as DiskGhosts}
use Rattle.pcp_outside.proofs.Crash.{joined, weaker}
use Rattle.pcp_outside.proofs.Images.{image_now}
use Rattle.archive_loading.proofs.Looking.{OnlyNow, looks_none}
use Rattle.archive_recovery.specs.Halfway.{HalfwayFrom, MayBeHalfway}
use Rattle.archive_recovery.specs.declared.outcome.Archive.{Archive}
use Rattle.archive_recovery.specs.declared.outcome.RecoverFault.{RecoverFault}
use Rattle.archive_recovery.specs.declared.outcome.RecoverFault.TheVariants as faults
use Rattle.archive_recovery.specs.RecoverFaults.{IsRecoverFault}
use Rattle.archive_recovery.specs.Told.{IsToldOf, WasRecovered}
use Rattle.logger_core.specs.Retiring.{held_without, without}
use Rattle.logger_core.proofs.AsFound.{same_files}
use Rattle.logging_session.proofs.ComeBack.{same_left}
use Rattle.pm_words.specs.declared.refusal.Refusal.{Refusal}
use Rattle.pm_words.specs.declared.refusal.Refusal.TheVariants.{Compressed, NotArchive, Live, DiskFault, NoMemory}
use Rattle.pm_words.specs.Refusals.{IsOfRun, recover_refusal, status_of}
use Rattle.pm_words.specs.Serving.{HasRecovered, HasServed, IsNever, Left, MayLeave, Meets, StopCause}
use Rattle.pm_words.specs.Sides.{DiskSide, Found, IsUnread, Leaves, disk_side, files_found}
use Rattle.pm_words.specs.Sound.{LeavesSound}
use Rattle.pm_words.proofs.Coherent.{IsCoherent}
use Rattle.pm_words.proofs.Sending.{rose_later}
use Rattle.pm_words.proofs.Serving.{left_alone}
use Rattle.pm_runs.specs.commands.recover.{IsMendedSide}
use Rattle.pm_runs.specs.commands.retire.{EmptyingStops, HasGoneOn, IsCurrent, IsLiveAs, IsRetiredSide, IsToldLive, IsTurnedAway, IsWithoutSome, KeepsRetired, MayBeRetiring, Standing, StandsAt, Went, retire, retired_line}
use Rattle.pm_runs.proofs.Coherent.{not_both}
use Rattle.pm_runs.proofs.Emptied.{IsEmptied, emptied_is, emptied_partly, filled_is_long, halfway_partly, without_none}
use Rattle.pm_runs.proofs.Mended.{all_settled}

-- ---- laws of its meaning

retire_runs : (below : ℕ) (f : Found) (e : Refusal) → IsOfRun e → IsTurnedAway below f e → ⊥
retire_runs below f (Compressed file) run t = run
retire_runs below f (NotArchive file at) run t = run
retire_runs below f (Live volume) run t = run
retire_runs below f _ run t = t

retire_wrapped : (below : ℕ) (f : Found) (file : FileId) (e : Refusal) → IsTurnedAway below f (Compressed file) → IsTurnedAway below f e → status_of e ≡ 6
retire_wrapped below f file (Compressed other) w t = refl
retire_wrapped below f file (NotArchive other offset) w t = refl
retire_wrapped below f file (Live volume) w t = absurd (not_both f.wrapped file t.0 w)
retire_wrapped below f file _ w t = absurd t

retired_is_sound : (below : ℕ) (d : DiskSide) → IsRetiredSide below d → LeavesSound (contents_of d.held) (contents_of d.after)
retired_is_sound below d x =
    let long = filled_is_long (contents_of d.held) x.left x.contents x.was x.recovered x.current x.is_current.filled in
    let e : IsEmptied (contents_of d.held) (ArchiveReading.archive x.contents) x.left below (contents_of d.after) =
    emptied_is (contents_of d.held) x.left (ArchiveReading.archive x.contents) below (contents_of d.after) x.was x.recovered (inr (x.current, x.not_above, long)) x.emptied in
    record {
      reading = e.new;
      reads = e.reads;
      whole = e.whole;
      sound = λ good. e.sound (good (ArchiveReading.archive x.contents) x.was x.left x.recovered);
    }

pub retire_coherent : (below : ℕ) → IsCoherent (retire below)
retire_coherent below = record {
  one_reason = λ input f reason e run x y. absurd (retire_runs below f reason run x);
  wrapped_first = λ input f file e x y. retire_wrapped below f file e x y;
  nothing_first = λ input f stamp e x y. absurd x;
  never_done = λ input d text served tells stamp x. x;
  untold = λ input d status other begun.
      ⊎_elim (λ (five : status ≡ 5). absurd (other five)) (λ (mended : ((status ≡ 9) ⊎ (status ≡ 14)) × (d.tells → IsMendedSide d)). inr (inl refl, mended.1)) begun;
  begins_untold = λ input d e front some begins. (begins.0, tt);
  takes_none = λ files n. tt;
  sound = λ input d writes tells done. retired_is_sound below d (done tells);
}

never_turned : (below : ℕ) (f : Found) (e : Refusal) → f.wrapped ≡ None → IsNever e → IsTurnedAway below f e → ⊥
never_turned below f (Compressed file) none never t = not_both f.wrapped file none t
never_turned below f e none never t = retire_runs below f e never t

-- ---- a disk of which the lowest volumes are empty

by_bool : {A : Type 0} (b : Bool) (P : A → Type 0) (x y : A) → P x → P y → P (if b then x else y)
by_bool true P x y px py = px
by_bool false P x y px py = py

contents_emptied : (held : Holdings) (below : ℕ) (file : FileId) → bytes_of (held_without held below file) ≡ without (contents_of held) below file
contents_emptied held below Meta = refl
contents_emptied held below Index = refl
contents_emptied held below (Volume n) = by (nat_lt n below)
  where
    by : (b : Bool) → bytes_of (if b then nothing_held else held (Volume n)) ≡ (if b then [] else contents_of held (Volume n))
    by true = refl
    by false = refl

sure_emptied : (held : Holdings) (below : ℕ) → ((file : FileId) → (held file).rest ≡ []) → (file : FileId) → (held_without held below file).rest ≡ []
sure_emptied held below sure Meta = sure Meta
sure_emptied held below sure Index = sure Index
sure_emptied held below sure (Volume n) = by_bool (nat_lt n below) (λ (h : Held). h.rest ≡ []) nothing_held (held (Volume n)) refl (sure (Volume n))

-- ---- each path

not_nothing : {A : Type 0} (archive : Archive) (l : LabelFields) → archive.label ≡ Some l → archive.label ≡ None → A
not_nothing archive l some none = absurd (none-some l (sym none ∙ some))

module _ {D : Type 0} (g : DiskGhosts D) (below : ℕ) (input : List ℕ) where
  stopped_meets : (a b : D) (e : Refusal) → StopCause (retire below) input (disk_side g a b) e → StandsAt (disk_side g a b) e → (HasRecovered (Err e) → ⊥) → (IsUnread g a → Leaves g a b CrashImage) → Leaves g a b (MayLeave (retire below) input)
      → (g.tells → Went g a b below (Err e)) → Meets (retire below) input g a b None [] (Err e)
  stopped_meets a b e stops stands early unread moments went = record {
    done = tt;
    stops = (stops, (refl, stands));
    aside = λ no. let both : true ≡ false = no in cc;
    unread = unread;
    any_moment = moments;
    taken = λ t. tt;
    since = λ t h. absurd (early h);
    ran = (refl, went);
    regions = λ runs. let both : false ≡ true = runs in cc;
    unrun = λ runs. let both : false ≡ true = runs in cc;
  }

  -- memory for the line is wanting
  pub unmade_meets : OnlyNow g → (a : D) → Meets (retire below) input g a a None [] (Err NoMemory)
  unmade_meets now a =
      let still : Leaves g a a CrashImage = (looks_none g now a).moments in
      stopped_meets a a NoMemory (left_alone (retire below) 9 input (disk_side g a a) (λ t. refl)) tt (λ h. h) (λ none. still)
      (λ t. weaker g.moment g.left_since g.held a a (CrashImage (g.held a)) (MayLeave (retire below) input (g.held a)) (still t) (λ crash was. inl was)) (λ t. inl refl)

  -- while recovery is on its way
  halfway_leaves : (a b : D) → Leaves g a b MayBeHalfway → Leaves g a b (MayLeave (retire below) input)
  halfway_leaves a b moments = λ t.
      weaker g.moment g.left_since g.held a b (MayBeHalfway (g.held a)) (MayLeave (retire below) input (g.held a)) (moments t)
      (λ crash may. inr (λ settled r reads left recovers. halfway_partly below (contents_of (g.held a)) left r reads recovers crash (may settled r reads)))

  -- recovery refuses the files
  module _ (a b : D) (moments : Leaves g a b MayBeHalfway) (unread : g.tells → IsUnread g a → LeavesOnly g.moment g.left_since a b (CrashImage (g.held a))) where
    abbrev here : DiskSide
    here = disk_side g a b

    refused_by : (e : Refusal) → StopCause (retire below) input here e → StandsAt here e → (HasRecovered (Err e) → ⊥) → (g.tells → Went g a b below (Err e)) → Meets (retire below) input g a b None [] (Err e)
    refused_by e stops stands early went = stopped_meets a b e stops stands early (λ none t. unread t none) (halfway_leaves a b moments) went

    pub refused_meets : (fault : RecoverFault) → (g.tells → IsRecoverFault (g.wrapped_file a) (contents_of (g.held a)) fault) → (g.tells → fault ≢ faults.DiskFault → g.held b ≡ g.held a) → (fault ≡ faults.DiskFault → Rose (g.faults a) (g.faults b))
        → Meets (retire below) input g a b None [] (Err (recover_refusal fault))
    refused_meets (faults.Compressed file) why kept rose =
        refused_by (Compressed file) ((refl, refl), left_alone (retire below) 6 input here (λ t. kept t (λ e. cc)), λ t. why t) tt (λ h. h) (λ t. kept t (λ e. cc))
    refused_meets (faults.NotArchive file at) why kept rose =
        refused_by (NotArchive file at) ((refl, refl), left_alone (retire below) 6 input here (λ t. kept t (λ e. cc)), λ t. why t) tt (λ h. h) (λ t. kept t (λ e. cc))
    refused_meets faults.DiskFault why kept rose =
        refused_by DiskFault ((refl, refl), record { files = inr (inl refl); settled = λ other. absurd (other refl) }, rose refl) tt (λ h. h) (λ t. inl (moments t))
    refused_meets faults.NoMemory why kept rose =
        refused_by NoMemory (left_alone (retire below) 9 input here (λ t. kept t (λ e. cc))) tt (λ h. h) (λ t. inl (kept t (λ e. cc)))

  -- it has mended them
  module _ (now : OnlyNow g) (counts_now : (disk : D) (t : ℕ) (c : Files) → t ≤ g.moment disk → CrashImage (g.held disk) c → g.left_since disk t c) (a mid b : D) (archive : Archive) (moments : Leaves g a mid MayBeHalfway)
      (was : g.tells → WasRecovered (contents_of (g.held a)) (contents_of (g.held mid)) archive) (sure : g.tells → (file : FileId) → (g.held mid file).rest ≡ []) (unwrapped : g.tells → g.wrapped_file a ≡ None)
      (emptying : g.tells → LeavesOnly g.moment g.left_since mid b (IsWithoutSome below (contents_of (g.held mid)))) where
    abbrev start : Files
    start = contents_of (g.held a)

    abbrev left : Files
    left = contents_of (g.held mid)

    abbrev side : DiskSide
    side = disk_side g a b

    -- recovery was on its way up to there
    halfway : (t : g.tells) → IsSettled (g.held a) → (r : ArchiveReading) → Reads start r → HalfwayFrom start r left
    halfway t = (moments t).each left (counts_now mid (g.moment a) left (moments t).later (image_now (g.held mid)))

    partly : (t : g.tells) (image : Files) → IsWithoutSome below left image → MayBeRetiring below (g.held a) image
    partly t image e = λ settled r reads other recovers.
        let w = was t in
        let same : r ≡ w.reading = one_reading start r w.reading reads w.was in
        let here : other ≡ left = same_left start other left r recovers (subst (λ (x : ArchiveReading). Recovers start x left) (sym same) w.recovered) in
        emptied_partly below start other r reads recovers (subst (HalfwayFrom start r) (sym here) (halfway t settled r reads)) e.from image e.few (subst (λ (f : Files). Standing f e.from) (sym here) e.standing)
        (λ file. e.is file ∙ ap (λ (f : Files). without f e.from file) (sym here))

    any_moment : Leaves g a b (MayLeave (retire below) input)
    any_moment = λ t.
        joined g.moment g.left_since g.held a mid b (MayLeave (retire below) input (g.held a)) (halfway_leaves a mid moments t)
        (weaker g.moment g.left_since g.held mid b (IsWithoutSome below left) (MayLeave (retire below) input (g.held a)) (emptying t) (λ image e. inr (partly t image e)))

    was_read : IsUnread g a → Leaves g a b CrashImage
    was_read none t = absurd (none ((was t).reading, (was t).was))

    gone_on : (most : ℕ) (t : g.tells) → LeavesOnly g.moment g.left_since mid b (IsWithoutSome most left) → HasGoneOn g a b most
    gone_on most t since = record {
      reading = (was t).reading;
      was = (was t).was;
      unwrapped = unwrapped t;
      middle = mid;
      later = (moments t).later;
      recovered = (was t).recovered;
      sure = sure t;
      since = since;
    }

    emptied_since : (t : g.tells) → HasGoneOn g a b below
    emptied_since t = gone_on below t (emptying t)

    -- ---- the volumes were emptied

    module _ (emptied : g.tells → (file : FileId) → g.held b file ≡ held_without (g.held mid) below file) (labelled : archive.label ≢ None) (allowed : below ≤ archive.volume) where
      retired_by : (t : g.tells) (r : ArchiveReading) → Reads start r → Recovers start r left → IsToldOf left (recovered_reading start r) archive → IsRetiredSide below side
      retired_by t ArchiveReading.nothing reads recovers told = absurd (labelled told.no_label)
      retired_by t (ArchiveReading.archive c) reads recovers told = record {
        contents = c;
        was = reads;
        left = left;
        recovered = recovers;
        current = archive.volume;
        is_current = record { filled = told.filled; above = told.above };
        not_above = allowed;
        emptied = λ file. ap bytes_of (emptied t file) ∙ contents_emptied (g.held mid) below file;
        sure = λ file. ap (λ (h : Held). h.rest) (emptied t file) ∙ sure_emptied (g.held mid) below (sure t) file;
      }

      retired : g.tells → IsRetiredSide below side
      retired t = let w = was t in retired_by t w.reading w.was w.recovered w.told

      keeps : (t : g.tells) (crash : Files) → CrashImage (g.held b) crash → KeepsRetired below start crash
      keeps t crash image = λ c is other recovers file.
          let x = retired t in
          let same : ArchiveReading.archive x.contents ≡ ArchiveReading.archive c = one_reading start (ArchiveReading.archive x.contents) (ArchiveReading.archive c) x.was is in
          let here : x.left ≡ other = same_left start x.left other (ArchiveReading.archive x.contents) x.recovered (subst (λ (r : ArchiveReading). Recovers start r other) (sym same) recovers) in
          same_files (g.held b) x.sure crash image file ∙ x.emptied file ∙ ap (λ (f : Files). without f below file) here

      served : (line : List ℕ) → line ≡ retired_line below → g.faults b ≡ g.faults a → HasServed (retire below) input side line
      served line is quiet = record {
        good = refl;
        welcome = λ t e never away. never_turned below (files_found side) e (unwrapped t) never away;
        done = retired;
        says = is;
        kept = keeps;
        settled = λ t before. all_settled (g.held b) (retired t).sure;
        quiet = quiet;
      }

      pub retired_meets : (line : List ℕ) → line ≡ retired_line below → g.faults b ≡ g.faults a → Meets (retire below) input g a b None [] (Ok line)
      retired_meets line is quiet = record {
        done = served line is quiet;
        stops = tt;
        aside = λ no. let both : true ≡ false = no in cc;
        unread = was_read;
        any_moment = any_moment;
        taken = λ t. tt;
        since = λ t h. emptied_since t;
        ran = (refl, λ t. emptied_since t);
        regions = λ runs. let both : false ≡ true = runs in cc;
        unrun = λ runs. let both : false ≡ true = runs in cc;
      }

    -- ---- or why not

    mended : b ≡ mid → g.tells → IsMendedSide side
    mended same t =
        let w = was t in record {
          reading = w.reading;
          was = w.was;
          recovered = subst (λ (x : D). Recovers start w.reading (contents_of (g.held x))) (sym same) w.recovered;
          sure = subst (λ (x : D). (file : FileId) → (g.held x file).rest ≡ []) (sym same) (sure t);
        }

    not_emptied : b ≡ mid → g.tells → HasGoneOn g a b 0
    not_emptied same t =
        gone_on 0 t
        (subst (λ (x : D). LeavesOnly g.moment g.left_since mid x (IsWithoutSome 0 left)) (sym same)
        (weaker g.moment g.left_since g.held mid mid (CrashImage (g.held mid)) (IsWithoutSome 0 left) ((looks_none g now mid).moments t)
        (λ image crash. record { from = 0; few = omega arith; standing = inl refl; is = λ file. same_files (g.held mid) (sure t) image crash file ∙ sym (without_none left file) })))

    live_as : (volume : ℕ) → IsToldLive below archive volume → (r : ArchiveReading) → Recovers start r left → IsToldOf left (recovered_reading start r) archive → IsLiveAs below start r volume
    live_as volume (inl (none, zero)) ArchiveReading.nothing recovers told = zero
    live_as volume (inr (some, is, low)) ArchiveReading.nothing recovers told = absurd (some told.no_label)
    live_as volume (inl (none, zero)) (ArchiveReading.archive c) recovers told = not_nothing archive c.label told.says none
    live_as volume (inr (some, is, low)) (ArchiveReading.archive c) recovers told =
        (left, recovers, subst (IsCurrent left) (sym is) (record { filled = told.filled; above = told.above }), low)

    live : (volume : ℕ) → IsToldLive below archive volume → g.tells → IsTurnedAway below (files_found side) (Live volume)
    live volume told t = let w = was t in (unwrapped t, (w.reading, w.was, live_as volume told w.reading w.recovered w.told))

    left_mended : (status : ℕ) → (status ≡ 9) ⊎ (status ≡ 14) → b ≡ mid → Left (retire below) status input side
    left_mended status which same = record { files = inr (inr (which, mended same)); settled = λ other t before. all_settled (g.held b) (mended same t).sure }

    stopped_as : (e : Refusal) → StopCause (retire below) input side e → StandsAt side e → (HasRecovered (Err e) → ⊥) → (g.tells → Went g a b below (Err e)) → Meets (retire below) input g a b None [] (Err e)
    stopped_as e stops stands early went = stopped_meets a b e stops stands early was_read any_moment went

    pub unemptied_meets : (e : Refusal) → g.faults a ≤ g.faults mid → EmptyingStops below archive (g.faults mid) (g.faults b) (b ≡ mid) e → Meets (retire below) input g a b None [] (Err e)
    unemptied_meets (Live volume) later (told, same) =
        stopped_as (Live volume) ((refl, refl), left_mended 14 (inr refl) same, live volume told) (mended same) (λ h. h) (not_emptied same)
    unemptied_meets DiskFault later rose =
        stopped_as DiskFault ((refl, refl), record { files = inr (inl refl); settled = λ other. absurd (other refl) }, rose_later (g.faults a) (g.faults mid) (g.faults b) later rose) tt (λ h. h) (λ t. inr (emptied_since t))
    unemptied_meets NoMemory later same = stopped_as NoMemory (left_mended 9 (inl refl) same) tt (λ h. h) (λ t. inr (not_emptied same t))
    unemptied_meets _ later stops = absurd stops
