-- A run that is done, and then a look at the disk.
use Rattle.std.proofs.Common.{◌≡◌, ◌≢◌, inr, ⊎_elim, ℕ, ◌+◌, ◌≤◌, List, [], ◌∷◌, ◌++◌, append-nil, length, length-append, arith, Option, refl, sym, ap, ◌∙◌, subst}
use Rattle.pcp_base.specs.declared.result.Item.{Item}
use Rattle.pcp_base.specs.declared.result.Item.TheVariants.{Sample}
use Rattle.pcp_model.specs.Archive.{ArchiveReading, Reads, scan}
use Rattle.pcp_model.specs.Disk.{Files, Holdings, CrashImage, IsSettled, contents_of}
use Rattle.pcp_model.specs.Recovered.{Recovers, recovered_reading}
use Rattle.pcp_model.proofs.OneReading.{one_reading}
use Rattle.pcp_model.proofs.Recovered.{recovery_keeps, recovery_reads}
use Rattle.pcp_outside.specs.declared.disk.Disk.{Ghosts as DiskGhosts}
use Rattle.pcp_outside.proofs.Crash.{joined, weaker}
use Rattle.archive_loading.specs.Looks.{Looks}
use Rattle.logging_session.specs.ComingBack.{ComesBack, ComesBackTo, MayBeAfter, start_of}
use Rattle.logging_session.specs.Course.{HasPassed, LeadsTo, WentBy}
use Rattle.logging_session.specs.Crashes.{IsAllAfter}
use Rattle.logging_session.specs.Events.{Event, acknowledged_by, closing, flushed_behind, items_by}
use Rattle.logging_session.specs.Keeping.{AreWhole}
use Rattle.logging_session.proofs.ComeBack.{fewer}
use Rattle.logging_session.proofs.Losing.{sure_bounded}
use Rattle.run_script.specs.declared.script.Script.{Script}
use Rattle.script_runs.specs.declared.ending.Ending.{Ending}
use Rattle.script_runs.specs.declared.ending.Ending.TheVariants as ends
use Rattle.script_runs.specs.Archives.{run_label}
use Rattle.script_runs.specs.Runs.{RunDoes}
use Rattle.run_archive.specs.declared.replayed.Replayed.{Replayed}
use Rattle.run_archive.specs.Endings.{MayEnd}
use Rattle.run_archive.specs.Outcomes.{IsFlushed, IsUnrecovered, RunsOnFiles, WentOn, ended, left_of}
use Rattle.run_passes.specs.declared.opening.Opened.{Opened}
use Rattle.record_run.specs.Replays.{ReplaysFiles}
use Rattle.pm_runs.specs.Running.{WasRun}

-- ---- what events acknowledge

items_append : (front rest : List Event) → items_by (front ++ rest) ≡ items_by front ++ items_by rest
items_append [] rest = refl
items_append (Event.opened stamp ∷ front) rest = items_append front rest
items_append (Event.logged r ∷ front) rest = ap (λ (items : List Item). Sample r.result ∷ items) (items_append front rest)
items_append (Event.flushed ∷ front) rest = items_append front rest
items_append (Event.synced ∷ front) rest = items_append front rest

flushed_items : (items : List Item) (events : List Event) → items_by (flushed_behind items events) ≡ items_by events
flushed_items [] events = refl
flushed_items (x ∷ items) events = items_append events (Event.flushed ∷ []) ∙ append-nil (items_by events)

front_few : (events front rest : List Event) → events ≡ front ++ rest → acknowledged_by front ≤ length (items_by events)
front_few events front rest is =
    let few : acknowledged_by front ≤ 0 + length (items_by front) = sure_bounded front 0 0 (omega arith) in
    let long : length (items_by events) ≡ length (items_by front) + length (items_by rest) =
    ap (λ (l : List Event). length (items_by l)) is ∙ ap length (items_append front rest) ∙ length-append (items_by front) (items_by rest) in
    omega (arith, few, long)

-- ---- all items come back

all_may : (items : List Item) (held : Holdings) (image : Files) → IsAllAfter items (contents_of held) image → MayBeAfter items 0 held image
all_may items held image all = λ settled r reads left recovers.
    fewer (start_of (contents_of held) r left) (scan r ++ items) (length (scan r ++ items)) (length (scan r) + 0) image (omega (arith, length-append (scan r) items)) (all r reads left recovers)

module _ (start left : Files) (r : ArchiveReading) (was : Reads start r) (recovers : Recovers start r left) where
  -- over whatever files recovery leaves these
  all_to : (items : List Item) (k : ℕ) (image : Files) → k ≤ length items → IsAllAfter items start image → ComesBackTo items k left image
  all_to items k image few all = λ files s reads also.
      let same : recovered_reading start r ≡ recovered_reading files s =
      one_reading left (recovered_reading start r) (recovered_reading files s) (recovery_reads start left r was recovers) (recovery_reads files left s reads also) in
      let scans : scan r ≡ scan s = sym (recovery_keeps start left r was recovers) ∙ ap scan same ∙ recovery_keeps files left s reads also in
      let back : ComesBack (start_of start r left) (scan r ++ items) (length (scan r) + k) image =
      fewer (start_of start r left) (scan r ++ items) (length (scan r ++ items)) (length (scan r) + k) image (omega (arith, few, length-append (scan r) items)) (all r was left recovers) in
      subst (λ (l : List Item). ComesBack (start_of files s left) (l ++ items) (length l + k) image) scans
      (subst (λ (x : ArchiveReading). ComesBack (record { files = left; reading = x }) (scan r ++ items) (length (scan r) + k) image) same back)

-- ---- the run

done_began : {D : Type 0} (g : DiskGhosts D) (old new : D) (e : Ending) → e ≡ ends.Done → IsUnrecovered g old new e → ⊥
done_began g old new e same n = subst (λ (x : Ending). IsUnrecovered g old new x) same n

done_not_disk : (e : Ending) → e ≡ ends.Done → e ≢ ends.DiskFault
done_not_disk e same failed = let both : ends.Done ≡ ends.DiskFault = sym same ∙ failed in cc

module _ {D : Type 0} {g : DiskGhosts D} {script : Script} {limit : ℕ} {old mid new : D} {opened : Option Opened} {r : Replayed} (done : r.ending ≡ ends.Done) (looks : Looks g mid new) (run : WasRun g script limit old mid opened r) where
  abbrev files : g.tells → ReplaysFiles g limit old mid run.is.run.ran
  files t = run.is.told t

  module _ (t : g.tells) where
    abbrev events : List Event
    events = (files t).events

    abbrev more : List Item
    more = (files t).more

    -- all of them were logged
    module _ (w : WentOn g limit events more old mid r.ending) where
      abbrev flushed : IsFlushed g limit events more old mid (left_of g limit events more old mid w)
      flushed = w.flushed (done_not_disk r.ending done)

      logged_all : items_by events ++ more ≡ items_by events
      logged_all = ap (λ (items : List Item). items_by events ++ items) flushed.none ∙ append-nil (items_by events)

      ended_all : items_by (ended r.ending events) ++ more ≡ items_by events
      ended_all = ap (λ (e : Ending). items_by (ended e events) ++ more) done ∙ ap (λ (items : List Item). items ++ more) (flushed_items (items_by events) events) ∙ logged_all

      still_flushed : IsFlushed g limit events more old new (left_of g limit events more old mid w)
      still_flushed = record {
        none = flushed.none;
        files = subst (λ (h : Holdings). LeadsTo run_label limit (left_of g limit events more old mid w) (closing events) (contents_of h)) (sym (looks.held t)) flushed.files;
        settled = subst IsSettled (sym (looks.held t)) flushed.settled;
        whole = subst (λ (h : Holdings). AreWhole (contents_of h)) (sym (looks.held t)) flushed.whole;
        survive = λ image left. flushed.survive image (subst (λ (h : Holdings). CrashImage h image) (looks.held t) left);
      }

      -- what a crash leaves meanwhile
      comes_meanwhile : (front rest : List Event) → ended r.ending events ≡ front ++ rest → (image : Files) → CrashImage (g.held mid) image
          → ComesBackTo (items_by (ended r.ending events) ++ more) (acknowledged_by front) (left_of g limit events more old mid w) image
      comes_meanwhile front rest is image left =
          let few : acknowledged_by front ≤ length (items_by (ended r.ending events)) = front_few (ended r.ending events) front rest is in
          let long : length (items_by (ended r.ending events)) ≡ length (items_by events) = ap (λ (e : Ending). length (items_by (ended e events))) done ∙ ap length (flushed_items (items_by events) events) in
          subst (λ (items : List Item). ComesBackTo items (acknowledged_by front) (left_of g limit events more old mid w) image) (sym ended_all)
          (all_to (contents_of (g.held old)) (left_of g limit events more old mid w) w.reading w.was w.recovered (items_by events) (acknowledged_by front) image (omega (arith, few, long)) (flushed.survive image left))

      still_went : WentBy g run_label limit (left_of g limit events more old mid w) (ended r.ending events) more w.middle new
      still_went front rest is unlogged =
          let p : HasPassed g run_label limit (left_of g limit events more old mid w) front (items_by (ended r.ending events) ++ more) w.middle mid = w.went front rest is unlogged in
          let Back = ComesBackTo (items_by (ended r.ending events) ++ more) (acknowledged_by front) (left_of g limit events more old mid w) in
          record {
            at = p.at;
            before = p.before;
            files = p.files;
            since = joined g.moment g.left_since g.held p.at mid new Back p.since (weaker g.moment g.left_since g.held mid new (CrashImage (g.held mid)) Back (looks.moments t) (λ image left. comes_meanwhile front rest is image left));
          }

      abbrev still_on : WentOn g limit events more old new r.ending
      still_on = record {
        reading = w.reading;
        was = w.was;
        unwrapped = w.unwrapped;
        middle = w.middle;
        later = w.later;
        recovered = w.recovered;
        sure = w.sure;
        went = still_went;
        flushed = λ other. still_flushed;
      }

      still_runs : RunDoes limit (left_of g limit events more old mid w) run.is.run.ran events more
          → RunsOnFiles g limit events more old new r.ending (run.is.run.ran.further.lines ≡ 0) (λ left. RunDoes limit left run.is.run.ran events more)
      still_runs does = record {
        any_moment = joined g.moment g.left_since g.held old mid new (MayBeAfter (items_by events ++ more) 0 (g.held old)) (files t).on.any_moment
            (weaker g.moment g.left_since g.held mid new (CrashImage (g.held mid)) (MayBeAfter (items_by events ++ more) 0 (g.held old)) (looks.moments t)
            (λ image left. subst (λ (items : List Item). MayBeAfter items 0 (g.held old) image) (sym logged_all) (all_may (items_by events) (g.held old) image (flushed.survive image left))));
        begun = inr (still_on, does);
      }

    went_on : (w : WentOn g limit events more old mid r.ending) × RunDoes limit (left_of g limit events more old mid w) run.is.run.ran events more
    went_on = ⊎_elim (λ n. absurd (done_began g old mid r.ending done n.0)) (λ w. w) (files t).on.begun

    looked_files : ReplaysFiles g limit old new run.is.run.ran
    looked_files = record { events = events; more = more; on = still_runs went_on.0 went_on.1 }

  pub looked_was : WasRun g script limit old new opened r
  looked_was = record {
    there = run.there;
    there_is = run.there_is;
    serves = run.serves;
    passes = run.passes;
    seats = run.seats;
    seat = run.seat;
    seat_is = run.seat_is;
    seated = run.seated;
    is = record { run = run.is.run; told = λ t. looked_files t };
    unread = λ none t. absurd (none ((went_on t).0.reading, (went_on t).0.was));
    cause = subst (λ (e : Ending). MayEnd (g.faults old) (g.faults new) e) (sym done) tt;
    later = omega (arith, run.later, looks.later);
  }
