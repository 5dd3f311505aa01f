-- What a call that records leaves of the disk, and what a crash leaves of it.
use Rattle.std.proofs.Common.{◌≡◌, ◌≢◌, ◌⊎◌, inl, inr, ⊎_elim, ℕ, List, refl, sym, ap, ◌∙◌, subst, Bool, true, false, ◌==◌, ◌||◌}
use Rattle.pcp_base.specs.declared.result.Item.{Item}
use Rattle.pcp_model.specs.Disk.{CrashImage, Files, Holdings, IsSettled, contents_of}
use Rattle.pcp_outside.specs.Devices.{LeavesOnly}
use Rattle.pcp_outside.proofs.Crash.{started, weaker}
use Rattle.logging_session.specs.ComingBack.{MayBeAfter}
use Rattle.logging_session.specs.Crashes.{IsAllAfter, LosesAtMostOne}
use Rattle.logging_session.specs.Events.{items_by}
use Rattle.run_archive.specs.Outcomes.{IsUnrecovered, ended}
use Rattle.run_archive.specs.Shown.{items_of_results}
use Rattle.script_runs.specs.declared.ending.Ending.{Ending}
use Rattle.script_runs.specs.declared.ending.Ending.TheVariants as ends
use Rattle.pm_words.specs.Serving.{HadRecovered}
use Rattle.pm_words.specs.Sides.{IsUnread, Leaves}
use Rattle.pm_recording.specs.Ends.{MayBeLeft, Ran, course_of, items_of}
use Rattle.pm_recording.specs.Facts.{KeepsAll, RecordsSince}
use Rattle.pm_recording.specs.Recording.{CallSide, IsUnrun}
use Rattle.pm_recording.proofs.Endings.{Late, Seen, cause_of, ended_status, is_early, ran_to, unlike}
use Rattle.pm_recording.proofs.Facts.{Did, Unrecovered, Went, began_of, gone_on}
use Rattle.pm_recording.proofs.Items.{items_are, of_opened, of_results}

done_not_failed : ends.Done ≡ ends.DiskFault → ⊥
done_not_failed failed = cc

-- the statuses of a run that had recovered
abbrev is_behind : ℕ → Bool
is_behind n = (n == 0) || ((n == 4) || ((n == 8) || ((n == 12) || ((n == 13) || (n == 20)))))

behind : (n : ℕ) → HadRecovered n → (is_behind n ≡ true) × (is_early n ≡ false)
behind n (inl h) = (ap is_behind h, ap is_early h)
behind n (inr (inl h)) = (ap is_behind h, ap is_early h)
behind n (inr (inr (inl h))) = (ap is_behind h, ap is_early h)
behind n (inr (inr (inr (inl h)))) = (ap is_behind h, ap is_early h)
behind n (inr (inr (inr (inr (inl h))))) = (ap is_behind h, ap is_early h)
behind n (inr (inr (inr (inr (inr h))))) = (ap is_behind h, ap is_early h)

module _ {C D : Type 0} (c : CallSide C D) where
  abbrev was : Holdings
  was = c.run.disk.held c.run.disk_was

  -- ---- settled

  abbrev Settles : Type 0
  Settles = c.run.disk.tells → IsSettled was → IsSettled (c.run.disk.held c.run.disk_is)

  -- where recovery didn't answer the disk stayed, unless it failed
  settles_by : (ending : Ending) → ending ≢ ends.DiskFault → (IsUnrecovered c.run.disk c.run.disk_was c.run.disk_is ending → c.run.disk.held c.run.disk_is ≡ was) → Ran c ending → Settles
  settles_by ending other stayed ran tells settled =
      ⊎_elim (λ (u : Unrecovered c ran tells ending). subst IsSettled (sym (stayed u.0)) settled)
      (λ (g : (went : Went c ran tells ending) × Did c ran tells ending went). (g.0.flushed other).settled) (began_of c ending ran tells)

  ran_settles : (ending : Ending) → ending ≢ ends.DiskFault → Ran c ending → Settles
  ran_settles ends.DiskFault other = absurd (other refl)
  ran_settles (ends.NotArchive file at) other = settles_by (ends.NotArchive file at) other (λ z. z.1)
  ran_settles (ends.Compressed file) other = settles_by (ends.Compressed file) other (λ z. z.1)
  ran_settles ends.NoMemory other = settles_by ends.NoMemory other (λ z. z)
  ran_settles ending other = settles_by ending other (λ z. absurd z)

  -- the line of a disk that failed takes no memory
  failed_so : (n : ℕ) → Late ends.DiskFault n → n ≡ 5
  failed_so n (inl h) = h
  failed_so n (inr (h, some)) = absurd some

  pub settles : (status : ℕ) → Seen c status → (status ≡ 5 → ⊥) → Settles
  settles status (inl (e, cause, unrun, told)) five tells settled = subst (λ (d : D). IsSettled (c.run.disk.held d)) (sym unrun.disk) settled
  settles status (inr (ending, ran, told)) five tells settled = ran_settles ending (λ failed. five (failed_so status (subst (λ (x : Ending). Late x status) failed told))) ran tells settled

  -- ---- a crash at any moment

  abbrev pub OnlyNow : Type 0
  OnlyNow = (disk : D) (crash : Files) → c.run.disk.left_since disk (c.run.disk.moment disk) crash → CrashImage (c.run.disk.held disk) crash

  abbrev LeavesSo : (Holdings → Files → Type 0) → Type 0
  LeavesSo P = Leaves c.run.disk c.run.disk_was c.run.disk_is P

  unrun_leaves : OnlyNow → IsUnrun c.run → (P : Holdings → Files → Type 0) → ((crash : Files) → CrashImage was crash → P was crash) → LeavesSo P
  unrun_leaves only_now unrun P good tells =
      subst (λ (d : D). LeavesOnly c.run.disk.moment c.run.disk.left_since c.run.disk_was d (P was)) (sym unrun.disk) (started c.run.disk.moment c.run.disk.left_since c.run.disk.held only_now c.run.disk_was (P was) good)

  pub any_moment : OnlyNow → (status : ℕ) → Seen c status → LeavesSo (MayBeLeft c)
  any_moment only_now status (inl (e, cause, unrun, told)) tells = unrun_leaves only_now unrun (MayBeLeft c) (λ crash image. inl image) tells
  any_moment only_now status (inr (ending, ran, told)) tells =
      weaker c.run.disk.moment c.run.disk.left_since c.run.disk.held c.run.disk_was c.run.disk_is (MayBeAfter (items_of ran tells) 0 was) (MayBeLeft c was) (course_of ran tells).on.any_moment (λ crash may. inr (tells, ending, ran, may))

  pub unread : OnlyNow → (status : ℕ) → Seen c status → IsUnread c.run.disk c.run.disk_was → LeavesSo CrashImage
  unread only_now status (inl (e, cause, unrun, told)) none = unrun_leaves only_now unrun CrashImage (λ crash image. image)
  unread only_now status (inr (ending, ran, told)) none = ran.has.was.unread none

  -- ---- what is kept

  pub keeps_all : Ran c ends.Done → c.run.disk.tells → KeepsAll c
  keeps_all ran tells =
      let gone = gone_on c ends.Done ran tells (λ z. z) in
      let results = ran.has.was.recording.results in
      let logged : items_by (course_of ran tells).events ≡ items_of_results results = ap items_by gone.1.0 ∙ items_are results in
      record { ran = ran; each = λ crash image. subst (λ (items : List Item). IsAllAfter items (contents_of was) crash) logged ((gone.0.flushed done_not_failed).survive crash image) }

  since_by : (ending : Ending) → (IsUnrecovered c.run.disk c.run.disk_was c.run.disk_is ending → ⊥) → (ran : Ran c ending)
      → ((told : c.run.disk.tells) (went : Went c ran told ending) → Did c ran told ending went → items_of ran told ≡ items_of_results ran.has.was.recording.results) → RecordsSince c
  since_by ending answered ran items = record {
    ending = ending;
    ran = ran;
    gone = λ told.
        let g = gone_on c ending ran told answered in
        record { went = g.0; did = g.1; items = items told g.0 g.1; loses_one = subst (λ (x : Ending). LosesAtMostOne (ended x (course_of ran told).events)) ran.ended (course_of ran told).loses_one };
  }

  late_since : (ending : Ending) → Ran c ending → is_behind (ended_status ending) ≡ true → RecordsSince c
  late_since ends.Done ran had = since_by ends.Done (λ z. z) ran (λ told went did. of_results ran.has.was.recording.results (course_of ran told).events (course_of ran told).more did.0 did.1)
  late_since (ends.ClockEnd left) ran had = since_by (ends.ClockEnd left) (λ z. z) ran (λ told went did. of_results ran.has.was.recording.results (course_of ran told).events (course_of ran told).more did.0 did.1)
  late_since (ends.ClockFault left) ran had = since_by (ends.ClockFault left) (λ z. z) ran (λ told went did. of_results ran.has.was.recording.results (course_of ran told).events (course_of ran told).more did.0 did.1)
  late_since (ends.NotLater last) ran had =
      since_by (ends.NotLater last) (λ z. z) ran (λ told went did. of_opened ran.has.was.recording.results did.0.sample.stamp (course_of ran told).events (course_of ran told).more did.2 did.3)
  late_since (ends.Changed pmid) ran had =
      since_by (ends.Changed pmid) (λ z. z) ran (λ told went did. of_opened ran.has.was.recording.results did.0.sample.stamp (course_of ran told).events (course_of ran told).more did.2 did.3)
  late_since (ends.Condition line) ran had = absurd (cause_of c (ends.Condition line) ran)
  late_since ending ran had = absurd (unlike had)

  pub had_since : (status : ℕ) → Seen c status → HadRecovered status → RecordsSince c
  had_since status saw had = let both = behind status had in let (ending, ran, is) = ran_to c status both.1 saw in by_one both.0 ending ran is where
    by_one : is_behind status ≡ true → (ending : Ending) → Ran c ending → (ended_status ending ≡ status) ⊎ ((status ≡ 4) × (ended_status ending ≡ 0)) → RecordsSince c
    by_one had ending ran (inl h) = late_since ending ran (ap is_behind h ∙ had)
    by_one had ending ran (inr (h, zero)) = late_since ending ran (ap is_behind zero)
