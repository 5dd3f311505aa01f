-- What may be recorded is.
use Rattle.std.proofs.Common.{◌≡◌, ◌⊎◌, inl, inr, ℕ, ◌+◌, ◌-◌, ◌<◌, ◌≤◌, List, [], ◌++◌, length, take, sym, ap, ◌∙◌, subst, arith, Some, None}
use Rattle.std.proofs.Math.Seq.{take-append-add}
use Rattle.pcp_base.specs.Time.{Moment}
use Rattle.pcp_model.specs.Disk.{Files, contents_of}
use Rattle.pcp_outside.specs.Sides.{SinkSide}
use Rattle.run_archive.specs.Outcomes.{left_of}
use Rattle.run_archive.specs.Shown.{events_of}
use Rattle.record_run.specs.Stopping.{ShowsLast, TurnsLastAway, WhyStopped, shown_last}
use Rattle.script_runs.specs.declared.ending.Ending.{Ending}
use Rattle.script_runs.specs.declared.ending.Ending.TheVariants as ends
use Rattle.script_runs.specs.declared.ending.LimitKind.{LimitKind}
use Rattle.script_runs.specs.declared.ending.LimitKind.TheVariants as kinds
use Rattle.script_runs.specs.Archives.{IsRecovered, IsTurnedAway}
use Rattle.pm_words.proofs.Asked.{write_fault}
use Rattle.pm_words.proofs.Unreadable.{refused_is_none}
use Rattle.pm_words.specs.declared.words.RecordWords.{RecordWords}
use Rattle.pm_recording.specs.Ends.{Ends, Orders, Ran, course_of}
use Rattle.pm_recording.specs.Facts.{Completes}
use Rattle.pm_recording.specs.Good.{IsGoodRun, IsLastTurnedAway}
use Rattle.pm_recording.specs.Recording.{CallSide}
use Rattle.pm_recording.proofs.Endings.{Ended, Late, cause_of, counts_of, seen}
use Rattle.pm_recording.proofs.Facts.{Wants, Went, compressed, gone_on, good_seen, had_moments, moments_left, no_archive, one_order}
use Rattle.pm_recording.proofs.Later.{not_late}

-- the moments that were taken stand in front of those that were asked for
in_front : (n : ℕ) (all moments rest : List Moment) → all ≡ moments ++ rest → length moments ≤ n → take n all ≡ moments ++ take (n - length moments) rest
in_front n all moments rest is few =
    let split : n ≡ length moments + (n - length moments) = omega (arith, few) in
    ap (take n) is ∙ ap (λ m. take m (moments ++ rest)) split ∙ take-append-add moments rest (n - length moments)

module _ {C D : Type 0} (c : CallSide C D) (k : SinkSide) (good : IsGoodRun c k) where
  -- the files that recovery left
  module _ (reason : Ending) (ran : Ran c reason) (went : Went c ran good.disk.tells reason) where
    abbrev found : Files
    found = left_of c.run.disk ran.asks.asked.volume (course_of ran good.disk.tells).events (course_of ran good.disk.tells).more c.run.disk_was c.run.disk_is went

    abbrev recovered : IsRecovered (contents_of (c.run.disk.held c.run.disk_was)) found
    recovered = record { reading = went.reading; was = went.was; recovered = went.recovered }

    turned_away : (last : ShowsLast ran.has.was.recording.beside.sampled) → IsTurnedAway ran.asks.asked.volume found (events_of ran.has.was.recording.results) (shown_last ran.has.was.recording.beside.sampled last) reason → IsLastTurnedAway ran reason
    turned_away last away = record { left = found; recovered = recovered; last = last; away = away }

  -- no sample comes too early
  timely : (last : Moment) → Ran c (ends.NotLater last) → ⊥
  timely last ran =
      let gone = gone_on c (ends.NotLater last) ran good.disk.tells (λ z. z) in
      let recording = ran.has.was.recording in
      let same = one_order c (ends.NotLater last) ran good.asked good.is_asked in
      let most = (counts_of c (ends.NotLater last) ran).0 in
      let few : length recording.moments ≤ good.asked.samples = omega (arith, same, most) in
      let front = in_front good.asked.samples (c.run.clock.left c.run.clock_was) recording.moments (c.run.clock.left c.run.clock_is) (recording.clock good.clock.tells) few in
      not_late recording.beside.sampled ran.asks.asked.volume (contents_of (c.run.disk.held c.run.disk_was)) (take good.asked.samples (c.run.clock.left c.run.clock_was))
      (take (good.asked.samples - length recording.moments) (c.run.clock.left c.run.clock_is)) front good.clock.rising good.clock.later
      (found (ends.NotLater last) ran gone.0) (recovered (ends.NotLater last) ran gone.0) gone.1.0 last gone.1.1

  -- none asks for too many metrics, and what each shows has its place
  too_large : (what : LimitKind) (number : ℕ) (ran : Ran c (ends.Limit what number)) (went : Went c ran good.disk.tells (ends.Limit what number))
      → TurnsLastAway ran.has.was.recording.beside.sampled ran.asks.asked.volume (found (ends.Limit what number) ran went) (ends.Limit what number) (course_of ran good.disk.tells).events (course_of ran good.disk.tells).more → ⊥
  too_large what number ran went did = (good.welcome (ends.Limit what number) ran).small what number (turned_away (ends.Limit what number) ran went did.0 did.1)

  unlimited : (what : LimitKind) (number : ℕ) → Ran c (ends.Limit what number) → ⊥
  unlimited kinds.Sets number ran = (good.welcome (ends.Limit kinds.Sets number) ran).few number (subst (λ (x : Ending). WhyStopped ran.has.was.recording.beside.sampled x) ran.ended ran.has.was.recording.why)
  unlimited what number ran = let gone = gone_on c (ends.Limit what number) ran good.disk.tells (λ z. z) in too_large what number ran gone.0 gone.1

  unchanged : (pmid : ℕ) → Ran c (ends.Changed pmid) → ⊥
  unchanged pmid ran =
      let gone = gone_on c (ends.Changed pmid) ran good.disk.tells (λ z. z) in (good.welcome (ends.Changed pmid) ran).same pmid (turned_away (ends.Changed pmid) ran gone.0 gone.1.0 gone.1.1)

  -- it is done, or ends by the clock, where its moments have ended, or for want of memory
  abbrev EndsWell : ℕ → Type 0
  EndsWell n = ((n ≡ 0) × Ran c ends.Done) ⊎ (((n ≡ 8) × ((left : ℕ) × Ran c (ends.ClockEnd left))) ⊎ (n ≡ 9))

  late_well : (n : ℕ) → (n ≡ 4 → ⊥) → (ending : Ending) → Ran c ending → Late ending n → EndsWell n
  late_well n four ends.Done ran (inl h) = inl (h, ran)
  late_well n four ends.Done ran (inr h) = absurd (four h)
  late_well n four (ends.ClockEnd left) ran (inl h) = inr (inl (h, (left, ran)))
  late_well n four (ends.ClockEnd left) ran (inr (h, some)) = inr (inr h)
  late_well n four ends.NoMemory ran (inl h) = inr (inr h)
  late_well n four ends.NoMemory ran (inr (h, some)) = inr (inr h)
  late_well n four (ends.Condition line) ran told = absurd (cause_of c (ends.Condition line) ran)
  late_well n four ends.DiskFault ran told = absurd (good.disk.kept (cause_of c ends.DiskFault ran))
  late_well n four (ends.NotArchive file at) ran told = absurd (refused_is_none (contents_of (c.run.disk.held c.run.disk_was)) file at good.disk.readable (no_archive c file at ran good.disk.tells))
  late_well n four (ends.Compressed file) ran told = let e : None ≡ Some file = sym good.disk.unwrapped ∙ compressed c file ran good.disk.tells in absurd (cc)
  late_well n four (ends.Limit what number) ran told = absurd (unlimited what number ran)
  late_well n four (ends.ClockFault left) ran told = absurd (good.clock.kept (cause_of c (ends.ClockFault left) ran))
  late_well n four (ends.NotLater last) ran told = absurd (timely last ran)
  late_well n four (ends.Changed pmid) ran told = absurd (unchanged pmid ran)

  well : (n : ℕ) → (n ≡ 4 → ⊥) → Wants c n ⊎ Ended c n → EndsWell n
  well n four (inl (inl h)) = inr (inr h)
  well n four (inl (inr (h, rose))) = absurd (good.source_kept rose)
  well n four (inr (ending, ran, told)) = late_well n four ending ran told

  ends_well : (status : ℕ) → Ends c k status → EndsWell status
  ends_well status e = well status (λ h. good.sink_kept (write_fault k [] e.result status e.told h)) (good_seen c good.meets good.script good.good status (seen c k status e))

  -- by the clock only where it has fewer moments than samples
  ended_short : (left : ℕ) → Ran c (ends.ClockEnd left) → (asked : RecordWords) → Orders c.words asked → asked.samples ≤ length (c.run.clock.left c.run.clock_was) → ⊥
  ended_short left ran asked is enough =
      let same = one_order c (ends.ClockEnd left) ran asked is in
      let taken = counts_of c (ends.ClockEnd left) ran in
      let none : length (c.run.clock.left c.run.clock_is) ≡ 0 = ap length (cause_of c (ends.ClockEnd left) ran good.clock.tells) in
      let there = moments_left c (ends.ClockEnd left) ran good.clock.tells in
      let total = taken.0 in let some = taken.1 in omega (arith, same, total, some, none, there, enough)

  module _ (asked : RecordWords) (is : Orders c.words asked) (n : ℕ) where
    enough_done : asked.samples ≤ length (c.run.clock.left c.run.clock_was) → EndsWell n → (n ≡ 0) ⊎ (n ≡ 9)
    enough_done enough (inl (h, ran)) = inl h
    enough_done enough (inr (inl (h, (left, ran)))) = absurd (ended_short left ran asked is enough)
    enough_done enough (inr (inr h)) = inr h

    short_ended : length (c.run.clock.left c.run.clock_was) < asked.samples → EndsWell n → (n ≡ 8) ⊎ (n ≡ 9)
    short_ended few (inl (h, ran)) = absurd (had_moments c ran good.clock.tells asked is few)
    short_ended few (inr (inl (h, ended))) = inl h
    short_ended few (inr (inr h)) = inr h

module _ {C D : Type 0} (c : CallSide C D) (k : SinkSide) where
  pub completes : (status : ℕ) → Ends c k status → Completes c k status
  completes status e = record {
    enough = λ good asked is enough. enough_done c k good asked is status enough (ends_well c k good status e);
    short = λ good asked is few. short_ended c k good asked is status few (ends_well c k good status e);
  }
