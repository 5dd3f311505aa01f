-- What the status of a call that records tells, fact by fact. "Always" yields to want of memory (9), to a read that failed before (3) and
-- to a disk that fails (5), which no clause can foresee.
use Rattle.std.specs.Prelude.{◌≡◌, ◌⊎◌, ℕ, ◌<◌, ◌≤◌, List, [], length, Some, IsSome, Ok, Err}
use Rattle.pcp_base.specs.Time.{Moment}
use Rattle.pcp_base.specs.declared.file.FileId.{FileId}
use Rattle.pcp_model.specs.Disk.{Files, CrashImage, IsSettled, contents_of}
use Rattle.pcp_outside.specs.Causes.{Rose}
use Rattle.pcp_outside.specs.Sides.{SourceSide, SinkSide}
use Rattle.archive_recovery.specs.RecoverFaults.{IsRefused}
use Rattle.run_script.specs.declared.fault.ScriptFault.{ScriptFault}
use Rattle.run_script.specs.declared.script.Script.{Script}
use Rattle.logging_session.specs.Crashes.{IsAllAfter, LosesAtMostOne}
use Rattle.record_run.specs.Beside.{WritersEnded}
use Rattle.record_run.specs.Stopping.{LoggingDid}
use Rattle.script_runs.specs.declared.ending.Ending.{Ending}
use Rattle.script_runs.specs.declared.ending.Ending.TheVariants as ends
use Rattle.script_runs.specs.declared.ending.LimitKind.{LimitKind}
use Rattle.run_archive.specs.Outcomes.{WentOn, ended, left_of}
use Rattle.run_archive.specs.Sampling.{HasEnded}
use Rattle.run_archive.specs.Shown.{items_of_results}
use Rattle.pm_words.specs.declared.words.Call.TheVariants as calls
use Rattle.pm_words.specs.declared.words.RecordWords.{RecordWords}
use Rattle.pm_words.specs.Asking.{ReadingIsExact, UsageIsExact}
use Rattle.pm_words.specs.Reading.{IsAbove}
use Rattle.pm_words.specs.Refusals.{script_status}
use Rattle.pm_words.specs.Serving.{HadRecovered}
use Rattle.pm_words.specs.Sides.{IsUnread, Leaves}
use Rattle.pm_recording.specs.Ends.{Ends, EndsDone, Finds, IsAsked, MayBeLeft, Orders, Ran, course_of, items_of}
use Rattle.pm_recording.specs.Exact.{AllIsCounted, LastIsShown}
use Rattle.pm_recording.specs.Good.{Meets, IsGoodRun}
use Rattle.pm_recording.specs.Recording.{CallSide, IsUnrun}
use Rattle.pm_recording.specs.Scripts.{script_recorded}

-- Before the run

-- 2 exactly where the script has a fault, or a line that a recording refuses; always the status of the first fault, which is 7 for a
-- region too many
pub record ScriptFaultIsExact (words : List (List ℕ)) (s : SourceSide) (status : ℕ) : Type 0 where
  pub only : status ≡ 2 → (fault : ScriptFault) × (script_status fault.fault ≡ 2) × Finds words s fault
  pub always : Meets words s → (fault : ScriptFault) → script_recorded s.left ≡ Err fault → (status ≡ script_status fault.fault) ⊎ ((status ≡ 9) ⊎ (status ≡ 3))

-- The input is above the limit, or the script has a region too many; or the recording ended by a limit, for the cause that it tells over any
-- disk: a sample asks for too many metrics, or shows what the archive, over a disk that tells, has no place for.
abbrev pub LimitCause : {C D : Type 0} → CallSide C D → Type 0
LimitCause c = (IsAsked c.words × IsAbove c.source)
    ⊎ (((fault : ScriptFault) × (script_status fault.fault ≡ 7) × Finds c.words c.source fault) ⊎ ((what : LimitKind) × (number : ℕ) × Ran c (ends.Limit what number)))

-- The run

-- the files are turned away: a file stands wrapped, or an offset fits no archive
abbrev pub FilesCause : {C D : Type 0} → CallSide C D → Type 0
FilesCause c = ((file : FileId) × Ran c (ends.Compressed file) × (c.run.disk.tells → c.run.disk.wrapped_file c.run.disk_was ≡ Some file))
    ⊎ ((file : FileId) × (at : ℕ) × Ran c (ends.NotArchive file at) × (c.run.disk.tells → IsRefused (contents_of (c.run.disk.held c.run.disk_was)) file at))

-- 6 only where they are; always where a file stands wrapped, unless the disk fails before
pub record ArchiveFaultIsExact {C D : Type 0} (c : CallSide C D) (status : ℕ) : Type 0 where
  pub only : status ≡ 6 → FilesCause c
  pub always : Meets c.words c.source → (script : Script) → script_recorded c.source.left ≡ Ok script → c.run.disk.tells → (file : FileId) → c.run.disk.wrapped_file c.run.disk_was ≡ Some file
      → (status ≡ 6) ⊎ ((status ≡ 9) ⊎ ((status ≡ 3) ⊎ (status ≡ 5)))

-- 12 only where a result isn't later than all that the archive has, 13 only where that describes a metric otherwise: the recording
-- ended so, for the cause that it tells
pub record RunIsExact {C D : Type 0} (c : CallSide C D) (status : ℕ) : Type 0 where
  pub not_later : status ≡ 12 → (last : Moment) × Ran c (ends.NotLater last)
  pub changed : status ≡ 13 → (pmid : ℕ) × Ran c (ends.Changed pmid)

-- 8 only where the clock's moments had ended when a sample asked for one, with so many samples to come; and a clock that has fewer
-- moments than samples are asked for never lets it be done. 20 only where the clock's count of faults rose.
pub record ClockIsExact {C D : Type 0} (c : CallSide C D) (status : ℕ) : Type 0 where
  pub ended : status ≡ 8 → ((left : ℕ) × Ran c (ends.ClockEnd left)) × HasEnded c.run.clock c.run.clock_is
  pub failed : status ≡ 20 → ((left : ℕ) × Ran c (ends.ClockFault left)) × Rose (c.run.clock.faults c.run.clock_was) (c.run.clock.faults c.run.clock_is)
  pub short : (asked : RecordWords) → Orders c.words asked → c.run.clock.tells → length (c.run.clock.left c.run.clock_was) < asked.samples → (status ≡ 0 → ⊥) × (status ≡ 4 → ⊥)

-- Regions

-- the statuses of a call that ran
abbrev pub ComesOfRun : ℕ → Type 0
ComesOfRun status = (status ≡ 0) ⊎ ((status ≡ 4) ⊎ ((status ≡ 5) ⊎ ((status ≡ 6) ⊎ ((status ≡ 8) ⊎ ((status ≡ 12) ⊎ ((status ≡ 13) ⊎ (status ≡ 20)))))))

-- Whatever ended the run, what is left of the passes tells whether its writers ended. Lists without a pass, one for each region: each
-- writer's lines are all run, and the seat has gathered every pass, so that no entry can stand behind what it has seen. No list: memory was refused to the writers, and the status is 9, or 5 where the disk failed too.
pub record WritersAreTold {C D : Type 0} (c : CallSide C D) (status : ℕ) : Type 0 where
  pub ending : Ending
  pub ran : Ran c ending
  pub told : WritersEnded ran.script ran.has.left.server ran.has.was.last.tokens ran.has.left.passes.items
      ⊎ ((ran.has.left.passes.items ≡ []) × ((status ≡ 9) ⊎ (status ≡ 5)))

-- Something is left wherever the run began and memory wasn't refused, and then the script was recorded on it; where nothing is left
-- neither the disk nor the clock was touched. After 0 and 4 it was recorded to its end. What was recorded tells after every status, 5, 7 and
-- 9 too, what was done to a disk that tells: recovery didn't answer, and nothing was logged; or it did, and from then on the disk went by
-- what the logging did, event by event.
pub record OpensRegions {C D : Type 0} (c : CallSide C D) (status : ℕ) : Type 0 where
  pub good : Meets c.words c.source → (script : Script) → script_recorded c.source.left ≡ Ok script → IsSome c.run.opened ⊎ ((status ≡ 9) ⊎ (status ≡ 3))
  pub run : ComesOfRun status → IsSome c.run.opened
  pub ran : IsSome c.run.opened → (ending : Ending) × Ran c ending
  pub writers : IsSome c.run.opened → WritersAreTold c status
  pub unrun : (IsSome c.run.opened → ⊥) → IsUnrun c.run
  pub done : status ≡ 0 → Ran c ends.Done
  pub untold : status ≡ 4 → Ran c ends.Done

-- The disk

-- recovery had answered, and from that moment on the disk went by what the logging did, event by event
pub record HasGoneOn {C D : Type 0} {c : CallSide C D} {ending : Ending} (ran : Ran c ending) (told : c.run.disk.tells) : Type 0 where
  pub went : WentOn c.run.disk ran.asks.asked.volume (course_of ran told).events (course_of ran told).more c.run.disk_was c.run.disk_is ending
  pub did : LoggingDid ran.has.was.recording.beside.sampled ran.asks.asked.volume
      (left_of c.run.disk ran.asks.asked.volume (course_of ran told).events (course_of ran told).more c.run.disk_was c.run.disk_is went) ending (course_of ran told).events (course_of ran told).more
  pub items : items_of ran told ≡ items_of_results ran.has.was.recording.results
  pub loses_one : LosesAtMostOne (ended ending (course_of ran told).events)

-- So it was over any disk that tells, settled or not. A crash from that moment on leaves all items of the start, the first ones of the run's
-- results, and of these all that the events by then acknowledge: of the results that were logged by then all but perhaps the last one.
pub record RecordsSince {C D : Type 0} (c : CallSide C D) : Type 0 where
  pub ending : Ending
  pub ran : Ran c ending
  pub gone : (told : c.run.disk.tells) → HasGoneOn ran told

-- each crash from now on leaves all items of the start, and all results
pub record KeepsAll {C D : Type 0} (c : CallSide C D) : Type 0 where
  pub ran : Ran c ends.Done
  pub each : (crash : Files) → CrashImage (c.run.disk.held c.run.disk_is) crash → IsAllAfter (items_of_results ran.has.was.recording.results) (contents_of (c.run.disk.held c.run.disk_was)) crash

-- Good runs

-- What may be recorded is, where the clock has a moment for each sample; else the clock's end is told.
pub record Completes {C D : Type 0} (c : CallSide C D) (k : SinkSide) (status : ℕ) : Type 0 where
  pub enough : IsGoodRun c k → (asked : RecordWords) → Orders c.words asked → asked.samples ≤ length (c.run.clock.left c.run.clock_was) → (status ≡ 0) ⊎ (status ≡ 9)
  pub short : IsGoodRun c k → (asked : RecordWords) → Orders c.words asked → length (c.run.clock.left c.run.clock_was) < asked.samples → (status ≡ 8) ⊎ (status ≡ 9)

-- All facts of a call that has ended with a status.
pub record Facts {C D : Type 0} (c : CallSide C D) (k : SinkSide) (status : ℕ) : Type 0 where
  -- How it ends, whole: done, done but not told, or refused, with each refusal's cause, what was taken of the input, what was recorded on the
  -- regions that are left and in the files, and which line was written.
  pub ends : Ends c k status
  -- Done: the input was read to its end, all samples were taken, and the line says how many results were logged.
  pub done : status ≡ 0 → EndsDone c k
  -- Done: no call of the source, of the sink, of the disk or of the clock failed, not even one that was tried again.
  pub quiet : status ≡ 0 → (c.source.faults_after ≡ c.source.faults) × (k.faults_after ≡ k.faults) × (c.run.disk.faults c.run.disk_is ≡ c.run.disk.faults c.run.disk_was) × (c.run.clock.faults c.run.clock_is ≡ c.run.clock.faults c.run.clock_was)
  -- Each other status comes for its cause alone.
  pub usage : UsageIsExact calls.Record c.words status
  pub script_fault : ScriptFaultIsExact c.words c.source status
  pub reading : ReadingIsExact calls.Record c.words c.source status
  pub write_fault : status ≡ 4 → Rose k.faults k.faults_after
  pub disk_fault : status ≡ 5 → Rose (c.run.disk.faults c.run.disk_was) (c.run.disk.faults c.run.disk_is)
  pub archive_fault : ArchiveFaultIsExact c status
  pub limit : status ≡ 7 → LimitCause c
  pub run_refused : RunIsExact c status
  pub clock : ClockIsExact c status
  -- The regions that are left are those of the script, on which its writers ran and the seat sampled, as its passes have seen; where the
  -- writers ended it has gathered every pass, so that no entry can stand behind that. They are there wherever the run began, but for
  -- want of memory, and else neither the disk nor the clock was touched.
  pub regions : OpensRegions c status
  -- Done: the last sample, which stands behind every writer, shows what the words of each region say in the end, and what is logged last
  -- is what these words answer.
  pub exact : status ≡ 0 → LastIsShown c
  -- Done: each number that it shows so is what was stored last plus all adds since, modulo 2^64, no line of a writer is lost, and no
  -- pass is left that could act behind it.
  pub sums : status ≡ 0 → AllIsCounted c
  -- Unless a count rises or memory is refused, a good script over good files is recorded to its end.
  pub completes : Completes c k status
  -- A settled disk is settled after every status but 5.
  pub settled : (status ≡ 5 → ⊥) → c.run.disk.tells → IsSettled (c.run.disk.held c.run.disk_was) → IsSettled (c.run.disk.held c.run.disk_is)
  -- Nothing that was there is lost: a crash at any moment leaves what one at the start might have left, or over a settled disk all
  -- items of the start and the first ones of the run's.
  pub any_moment : Leaves c.run.disk c.run.disk_was c.run.disk_is (MayBeLeft c)
  -- Files that are no archive stay as they were.
  pub unread : IsUnread c.run.disk c.run.disk_was → Leaves c.run.disk c.run.disk_was c.run.disk_is CrashImage
  -- Once it has ended with 0, each crash leaves all results, until something else touches the disk.
  pub kept : status ≡ 0 → c.run.disk.tells → KeepsAll c
  -- Over any disk, settled or not: from the moment on at which recovery answered it went by what was logged, event by event, and a crash
  -- leaves all items of the start, the first ones of the run's results, and of those that were logged by then all but perhaps the last one.
  pub since : HadRecovered status → RecordsSince c
