-- The causes of each status, and the regions that are left.
use Rattle.std.proofs.Common.{◌≡◌, ◌⊎◌, inl, inr, ⊎_elim, ℕ, ◌+◌, ◌<◌, [], length, length-append, refl, sym, ap, ◌∙◌, subst, arith, false, Some, None, IsSome, Result, Ok, Err}
use Rattle.pcp_base.specs.Time.{Moment}
use Rattle.pcp_base.specs.declared.file.FileId.{FileId}
use Rattle.pcp_model.specs.Disk.{contents_of}
use Rattle.pcp_outside.specs.Causes.{Rose}
use Rattle.archive_recovery.specs.RecoverFaults.{IsRefused}
use Rattle.run_script.specs.declared.fault.ScriptFault.{ScriptFault}
use Rattle.run_script.specs.declared.script.Script.{Script}
use Rattle.record_run.specs.Beside.{TellWriters}
use Rattle.record_run.specs.Stopping.{LoggingDid}
use Rattle.script_runs.specs.declared.ending.Ending.{Ending}
use Rattle.script_runs.specs.declared.ending.Ending.TheVariants as ends
use Rattle.run_archive.specs.Outcomes.{IsUnrecovered, WentOn, left_of}
use Rattle.run_archive.specs.Sampling.{HasEnded}
use Rattle.pm_words.specs.declared.refusal.Refusal.{Refusal}
use Rattle.pm_words.specs.declared.refusal.Refusal.TheVariants.{Usage, ReadFault, InputLimit, Image, Line, Rules, Script as Scripted, Condition, Limit, NoMemory}
use Rattle.pm_words.specs.declared.words.Call.TheVariants as calls
use Rattle.pm_words.specs.declared.words.Command.{Command}
use Rattle.pm_words.specs.declared.words.Command.TheVariants.{Record}
use Rattle.pm_words.specs.declared.words.RecordWords.{RecordWords}
use Rattle.pm_words.specs.Refusals.{script_status, status_of}
use Rattle.pm_words.specs.Inputs.{input_limit}
use Rattle.pm_words.proofs.Asked.{apart, one}
use Rattle.pm_recording.specs.Ends.{Asks, Cause, Finds, Orders, Ran, course_of}
use Rattle.pm_recording.specs.Facts.{ArchiveFaultIsExact, ClockIsExact, ComesOfRun, FilesCause, LimitCause, OpensRegions, RunIsExact, ScriptFaultIsExact, WritersAreTold}
use Rattle.pm_recording.specs.Good.{Meets}
use Rattle.pm_recording.specs.Recording.{CallSide, IsUnrun}
use Rattle.pm_recording.specs.Scripts.{script_recorded}
use Rattle.pm_recording.proofs.Endings.{Ended, Late, Seen, by_late, by_status, cause_of, counts_of, ended_status, is_early, is_left, ran_if_left, ran_to, was_done}

module _ {C D : Type 0} (c : CallSide C D) where
  -- ---- an input that is given

  -- what was read is what the source had
  of_left : (a : Asks c.words c.source) → c.source.tells → (found : Result Script ScriptFault) → script_recorded a.input ≡ found → script_recorded c.source.left ≡ found
  of_left a tells found is = ap script_recorded (sym (a.read.told tells).0) ∙ is

  abbrev pub Wants : ℕ → Type 0
  Wants n = (n ≡ 9) ⊎ ((n ≡ 3) × Rose c.source.faults c.source.faults_after)

  abbrev FaultOf : ℕ → Type 0
  FaultOf n = (fault : ScriptFault) × (script_recorded c.source.left ≡ Err fault) × (n ≡ script_status fault.fault)

  -- but for want of memory and a read that failed, it is refused before the run for a fault of the input alone
  met : Meets c.words c.source → (e : Refusal) → Cause c.words c.source e → Wants (status_of e) ⊎ FaultOf (status_of e)
  met m (Usage at) cause = absurd (apart calls.Record c.words c.source at cause.0 m.asked.0 m.asked.1)
  met m ReadFault cause = inl (inr (refl, cause.1.0))
  met m InputLimit cause = let above : input_limit < length c.source.left = (cause.1 m.tells).0 in let within = m.within in absurd (omega (arith, above, within))
  met m (Scripted fault) cause = inr (fault, of_left cause.0 m.tells (Err fault) cause.1, refl)
  met m NoMemory cause = inl (inl refl)
  met m e cause = absurd cause

  met_seen : Meets c.words c.source → (n : ℕ) → Seen c n → (Wants n ⊎ FaultOf n) ⊎ Ended c n
  met_seen m n (inl (e, cause, unrun, inl h)) = inl (subst (λ (x : ℕ). Wants x ⊎ FaultOf x) (sym h) (met m e cause))
  met_seen m n (inl (e, cause, unrun, inr (h, some))) = inl (inl (inl h))
  met_seen m n (inr ended) = inr ended

  says_both : (x : Script) (fault : ScriptFault) → script_recorded c.source.left ≡ Ok x → script_recorded c.source.left ≡ Err fault → ⊥
  says_both x fault good bad = let e : Ok x ≡ Err fault = sym good ∙ bad in cc

  -- one that may be recorded is, but for want of memory and a read that failed
  pub good_seen : Meets c.words c.source → (x : Script) → script_recorded c.source.left ≡ Ok x → (n : ℕ) → Seen c n → Wants n ⊎ Ended c n
  good_seen m x good n saw = by_cases (met_seen m n saw) where
    by_cases : (Wants n ⊎ FaultOf n) ⊎ Ended c n → Wants n ⊎ Ended c n
    by_cases (inl (inl wants)) = inl wants
    by_cases (inl (inr (fault, bad, h))) = absurd (says_both x fault good bad)
    by_cases (inr ended) = inr ended

  -- ---- 2 and 7

  no_condition : (ending : Ending) → Ran c ending → ended_status ending ≡ 2 → ⊥
  no_condition (ends.Condition line) ran h = cause_of c (ends.Condition line) ran
  no_condition ending ran h = omega (arith, h)

  fault_found : (e : Refusal) → Cause c.words c.source e → status_of e ≡ 2 → (fault : ScriptFault) × (script_status fault.fault ≡ 2) × Finds c.words c.source fault
  fault_found (Scripted fault) cause h = (fault, h, cause)
  fault_found (Image fault) cause h = absurd cause
  fault_found (Line fault) cause h = absurd cause
  fault_found (Rules fault) cause h = absurd cause
  fault_found (Condition line) cause h = absurd cause
  fault_found e cause h = absurd (omega (arith, h))

  pub script_fault_is_exact : (status : ℕ) → Seen c status → ScriptFaultIsExact c.words c.source status
  script_fault_is_exact status saw = record {
    only = λ h. by_status c 2 (λ z. omega (arith, z)) (λ z. omega (arith, z)) fault_found (λ ending ran two. absurd (no_condition ending ran two)) (subst (Seen c) h saw);
    always = λ m fault bad. told m fault bad (met_seen m status saw);
  } where
    told : Meets c.words c.source → (fault : ScriptFault) → script_recorded c.source.left ≡ Err fault → (Wants status ⊎ FaultOf status) ⊎ Ended c status → (status ≡ script_status fault.fault) ⊎ ((status ≡ 9) ⊎ (status ≡ 3))
    told m fault bad (inl (inl (inl h))) = inr (inl h)
    told m fault bad (inl (inl (inr (h, rose)))) = inr (inr h)
    told m fault bad (inl (inr (found, is, h))) = let e : Err found ≡ Err fault = sym is ∙ bad in let same : found ≡ fault = cc in inl (h ∙ ap (λ (x : ScriptFault). script_status x.fault) same)
    told m fault bad (inr (ending, ran, late)) = absurd (says_both ran.script fault (of_left ran.asks m.tells (Ok ran.script) ran.good) bad)

  limit_early : (e : Refusal) → Cause c.words c.source e → status_of e ≡ 7 → LimitCause c
  limit_early (Scripted fault) cause h = inr (inl (fault, h, cause))
  limit_early InputLimit cause h = inl cause
  limit_early (Rules fault) cause h = absurd cause
  limit_early (Limit what number) cause h = absurd cause
  limit_early e cause h = absurd (omega (arith, h))

  limit_late : (ending : Ending) → Ran c ending → ended_status ending ≡ 7 → LimitCause c
  limit_late (ends.Limit what number) ran h = inr (inr (what, number, ran))
  limit_late ending ran h = absurd (omega (arith, h))

  pub limit_is_exact : Seen c 7 → LimitCause c
  limit_is_exact saw = by_status c 7 (λ z. omega (arith, z)) (λ z. omega (arith, z)) limit_early limit_late saw

  -- ---- an ending of the run by its status

  disk_rose : (ending : Ending) → Ran c ending → ended_status ending ≡ 5 → Rose (c.run.disk.faults c.run.disk_was) (c.run.disk.faults c.run.disk_is)
  disk_rose ends.DiskFault ran h = cause_of c ends.DiskFault ran
  disk_rose ending ran h = absurd (omega (arith, h))

  pub disk_fault_rose : Seen c 5 → Rose (c.run.disk.faults c.run.disk_was) (c.run.disk.faults c.run.disk_is)
  disk_fault_rose saw = by_late c 5 refl (λ z. omega (arith, z)) disk_rose saw

  late_at : (ending : Ending) → Ran c ending → ended_status ending ≡ 12 → (last : Moment) × Ran c (ends.NotLater last)
  late_at (ends.NotLater last) ran h = (last, ran)
  late_at ending ran h = absurd (omega (arith, h))

  changed_at : (ending : Ending) → Ran c ending → ended_status ending ≡ 13 → (pmid : ℕ) × Ran c (ends.Changed pmid)
  changed_at (ends.Changed pmid) ran h = (pmid, ran)
  changed_at ending ran h = absurd (omega (arith, h))

  pub run_is_exact : (status : ℕ) → Seen c status → RunIsExact c status
  run_is_exact status saw = record {
    not_later = λ h. by_late c 12 refl (λ z. omega (arith, z)) late_at (subst (Seen c) h saw);
    changed = λ h. by_late c 13 refl (λ z. omega (arith, z)) changed_at (subst (Seen c) h saw);
  }

  -- ---- the clock

  clock_ended : (ending : Ending) → Ran c ending → ended_status ending ≡ 8 → ((left : ℕ) × Ran c (ends.ClockEnd left)) × HasEnded c.run.clock c.run.clock_is
  clock_ended (ends.ClockEnd left) ran h = ((left, ran), cause_of c (ends.ClockEnd left) ran)
  clock_ended ending ran h = absurd (omega (arith, h))

  clock_failed : (ending : Ending) → Ran c ending → ended_status ending ≡ 20 → ((left : ℕ) × Ran c (ends.ClockFault left)) × Rose (c.run.clock.faults c.run.clock_was) (c.run.clock.faults c.run.clock_is)
  clock_failed (ends.ClockFault left) ran h = ((left, ran), cause_of c (ends.ClockFault left) ran)
  clock_failed ending ran h = absurd (omega (arith, h))

  pub moments_left : (ending : Ending) (ran : Ran c ending) → c.run.clock.tells → length (c.run.clock.left c.run.clock_was) ≡ length ran.has.was.recording.moments + length (c.run.clock.left c.run.clock_is)
  moments_left ending ran tells = ap length (ran.has.was.recording.clock tells) ∙ length-append ran.has.was.recording.moments (c.run.clock.left c.run.clock_is)

  abbrev samples_of : Command → ℕ
  samples_of (Record asked) = asked.samples
  samples_of command = 0

  pub one_order : (ending : Ending) (ran : Ran c ending) (asked : RecordWords) → Orders c.words asked → ran.asks.asked.samples ≡ asked.samples
  one_order ending ran asked is = ap samples_of (one calls.Record c.words c.source (Record ran.asks.asked) (Record asked) ran.asks.words_are is)

  -- all samples were taken
  pub had_moments : Ran c ends.Done → c.run.clock.tells → (asked : RecordWords) → Orders c.words asked → length (c.run.clock.left c.run.clock_was) < asked.samples → ⊥
  had_moments ran tells asked is few =
      let same = one_order ends.Done ran asked is in
      let taken = (counts_of c ends.Done ran).0 in
      let there = moments_left ends.Done ran tells in omega (arith, same, taken, there, few)

  pub clock_is_exact : (status : ℕ) → Seen c status → ClockIsExact c status
  clock_is_exact status saw = record {
    ended = λ h. by_late c 8 refl (λ z. omega (arith, z)) clock_ended (subst (Seen c) h saw);
    failed = λ h. by_late c 20 refl (λ z. omega (arith, z)) clock_failed (subst (Seen c) h saw);
    short = λ asked is tells few. (λ h. had_moments (was_done c 0 refl (omega arith) (subst (Seen c) h saw)) tells asked is few, λ h. had_moments (was_done c 4 refl (omega arith) (subst (Seen c) h saw)) tells asked is few);
  }

  -- ---- the files at the start

  module _ {ending : Ending} (ran : Ran c ending) (told : c.run.disk.tells) where
    -- recovery didn't answer, for this reason
    abbrev pub Unrecovered : Ending → Type 0
    Unrecovered reason = IsUnrecovered c.run.disk c.run.disk_was c.run.disk_is reason × ((course_of ran told).events ≡ []) × ((course_of ran told).more ≡ []) × ((ran.has.was.recording.moments ≡ []) × (ran.has.was.recording.results ≡ []))

    abbrev pub Went : Ending → Type 0
    Went reason = WentOn c.run.disk ran.asks.asked.volume (course_of ran told).events (course_of ran told).more c.run.disk_was c.run.disk_is reason

    abbrev pub Did : (reason : Ending) → Went reason → Type 0
    Did reason went =
        LoggingDid ran.has.was.recording.beside.sampled ran.asks.asked.volume (left_of c.run.disk ran.asks.asked.volume (course_of ran told).events (course_of ran told).more c.run.disk_was c.run.disk_is went) reason
        (course_of ran told).events (course_of ran told).more

    abbrev pub Began : Ending → Type 0
    Began reason = Unrecovered reason ⊎ ((went : Went reason) × Did reason went)

  pub began_of : (ending : Ending) (ran : Ran c ending) (told : c.run.disk.tells) → Began ran told ending
  began_of ending ran told = subst (λ (x : Ending). Began ran told x) ran.ended (course_of ran told).on.begun

  -- but for the files, the disk and want of memory each ending comes behind it
  pub gone_on : (ending : Ending) (ran : Ran c ending) (told : c.run.disk.tells) → (IsUnrecovered c.run.disk c.run.disk_was c.run.disk_is ending → ⊥) → (went : Went ran told ending) × Did ran told ending went
  gone_on ending ran told answered = ⊎_elim (λ (u : Unrecovered ran told ending). absurd (answered u.0)) (λ (g : (went : Went ran told ending) × Did ran told ending went). g) (began_of ending ran told)

  pub compressed : (file : FileId) → Ran c (ends.Compressed file) → c.run.disk.tells → c.run.disk.wrapped_file c.run.disk_was ≡ Some file
  compressed file ran told =
      ⊎_elim (λ (u : Unrecovered ran told (ends.Compressed file)). u.0.0) (λ (g : (went : Went ran told (ends.Compressed file)) × Did ran told (ends.Compressed file) went). absurd g.1) (began_of (ends.Compressed file) ran told)

  pub no_archive : (file : FileId) (at : ℕ) → Ran c (ends.NotArchive file at) → c.run.disk.tells → IsRefused (contents_of (c.run.disk.held c.run.disk_was)) file at
  no_archive file at ran told =
      ⊎_elim (λ (u : Unrecovered ran told (ends.NotArchive file at)). u.0.0.1) (λ (g : (went : Went ran told (ends.NotArchive file at)) × Did ran told (ends.NotArchive file at) went). absurd g.1) (began_of (ends.NotArchive file at) ran told)

  archive_only : (ending : Ending) → Ran c ending → ended_status ending ≡ 6 → FilesCause c
  archive_only (ends.Compressed file) ran h = inl (file, ran, compressed file ran)
  archive_only (ends.NotArchive file at) ran h = inr (file, at, ran, no_archive file at ran)
  archive_only ending ran h = absurd (omega (arith, h))

  module _ (tells : c.run.disk.tells) (file : FileId) (wraps : c.run.disk.wrapped_file c.run.disk_was ≡ Some file) where
    not_gone : (ending : Ending) → (IsUnrecovered c.run.disk c.run.disk_was c.run.disk_is ending → ⊥) → Ran c ending → ⊥
    not_gone ending answered ran = let e : None ≡ Some file = sym (gone_on ending ran tells answered).0.unwrapped ∙ wraps in cc

    wrapped_late : (n : ℕ) (ending : Ending) → Ran c ending → Late ending n → (n ≡ 6) ⊎ ((n ≡ 9) ⊎ ((n ≡ 3) ⊎ (n ≡ 5)))
    wrapped_late n (ends.Condition line) ran told = absurd (cause_of c (ends.Condition line) ran)
    wrapped_late n ends.DiskFault ran (inl h) = inr (inr (inr h))
    wrapped_late n ends.DiskFault ran (inr (h, some)) = inr (inl h)
    wrapped_late n (ends.NotArchive f at) ran (inl h) = inl h
    wrapped_late n (ends.NotArchive f at) ran (inr (h, some)) = inr (inl h)
    wrapped_late n (ends.Compressed f) ran (inl h) = inl h
    wrapped_late n (ends.Compressed f) ran (inr (h, some)) = inr (inl h)
    wrapped_late n ends.NoMemory ran (inl h) = inr (inl h)
    wrapped_late n ends.NoMemory ran (inr (h, some)) = inr (inl h)
    wrapped_late n ending ran told = absurd (not_gone ending (λ z. z) ran)

    wrapped : (n : ℕ) → Wants n ⊎ Ended c n → (n ≡ 6) ⊎ ((n ≡ 9) ⊎ ((n ≡ 3) ⊎ (n ≡ 5)))
    wrapped n (inl (inl h)) = inr (inl h)
    wrapped n (inl (inr (h, rose))) = inr (inr (inl h))
    wrapped n (inr (ending, ran, told)) = wrapped_late n ending ran told

  pub archive_fault_is_exact : (status : ℕ) → Seen c status → ArchiveFaultIsExact c status
  archive_fault_is_exact status saw = record {
    only = λ h. by_late c 6 refl (λ z. omega (arith, z)) archive_only (subst (Seen c) h saw);
    always = λ m x good tells file wraps. wrapped tells file wraps status (good_seen m x good status saw);
  }

  -- ---- the regions

  left_by : (n : ℕ) → Wants n ⊎ Ended c n → IsSome c.run.opened ⊎ ((n ≡ 9) ⊎ (n ≡ 3))
  left_by n (inl (inl h)) = inr (inl h)
  left_by n (inl (inr (h, rose))) = inr (inr h)
  left_by n (inr (ending, ran, told)) = inl (is_left c ending ran)

  comes_late : (n : ℕ) → ComesOfRun n → is_early n ≡ false
  comes_late n (inl h) = ap is_early h
  comes_late n (inr (inl h)) = ap is_early h
  comes_late n (inr (inr (inl h))) = ap is_early h
  comes_late n (inr (inr (inr (inl h)))) = ap is_early h
  comes_late n (inr (inr (inr (inr (inl h))))) = ap is_early h
  comes_late n (inr (inr (inr (inr (inr (inl h)))))) = ap is_early h
  comes_late n (inr (inr (inr (inr (inr (inr (inl h))))))) = ap is_early h
  comes_late n (inr (inr (inr (inr (inr (inr (inr h))))))) = ap is_early h

  unrun_by : (n : ℕ) → Seen c n → (IsSome c.run.opened → ⊥) → IsUnrun c.run
  unrun_by n (inl (e, cause, unrun, told)) none = unrun
  unrun_by n (inr (ending, ran, told)) none = absurd (none (is_left c ending ran))

  wanting_status : (n : ℕ) → Late ends.NoMemory n → (n ≡ 9) ⊎ (n ≡ 5)
  wanting_status n (inl h) = inl h
  wanting_status n (inr (h, some)) = inl h

  failing_status : (n : ℕ) → Late ends.DiskFault n → (n ≡ 9) ⊎ (n ≡ 5)
  failing_status n (inl h) = inr h
  failing_status n (inr (h, some)) = inl h

  writers_told : (n : ℕ) → Ended c n → WritersAreTold c n
  writers_told n (ending, ran, late) =
      by_writers (subst (λ (x : Ending). TellWriters ran.script ran.has.left.server ran.has.was.last.tokens ran.has.left.passes.items x) ran.ended ran.has.was.writers)
    where
      by_writers : TellWriters ran.script ran.has.left.server ran.has.was.last.tokens ran.has.left.passes.items ending → WritersAreTold c n
      by_writers (inl ended) = record { ending = ending; ran = ran; told = inl ended }
      by_writers (inr (none, inl want)) = record { ending = ending; ran = ran; told = inr (none, wanting_status n (subst (λ (x : Ending). Late x n) want late)) }
      by_writers (inr (none, inr fails)) = record { ending = ending; ran = ran; told = inr (none, failing_status n (subst (λ (x : Ending). Late x n) fails late)) }

  pub opens_regions : (status : ℕ) → Seen c status → OpensRegions c status
  opens_regions status saw = record {
    good = λ m x good. left_by status (good_seen m x good status saw);
    run = λ comes. let (ending, ran, is) = ran_to c status (comes_late status comes) saw in is_left c ending ran;
    ran = λ some. let (ending, ran, told) = ran_if_left c status saw some in (ending, ran);
    writers = λ some. writers_told status (ran_if_left c status saw some);
    unrun = unrun_by status saw;
    done = λ h. was_done c 0 refl (omega arith) (subst (Seen c) h saw);
    untold = λ h. was_done c 4 refl (omega arith) (subst (Seen c) h saw);
  }
