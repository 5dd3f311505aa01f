-- What the status of a call that extracts tells, fact by fact. "Always" yields to want of memory (9) and to a disk that fails (5), which no clause
-- can foresee.
use Rattle.std.specs.Prelude.{◌≡◌, ◌≢◌, ◌⊎◌, ℕ, Some, Result, Err}
use Rattle.pcp_base.specs.Time.{Moment}
use Rattle.pcp_base.specs.declared.file.FileId.{FileId}
use Rattle.pcp_model.specs.Disk.{Files, CrashImage, IsSettled, contents_of}
use Rattle.pcp_outside.specs.Causes.{Rose}
use Rattle.pcp_outside.specs.Sides.{SinkSide}
use Rattle.archive_check.specs.Checks.{IsCheckFault, IsUnsound}
use Rattle.archive_check.specs.declared.fault.CheckFault.{CheckFault}
use Rattle.archive_check.specs.declared.fault.CheckFault.TheVariants as checks
use Rattle.archive_merge.specs.declared.fault.MergeFault.{MergeFault}
use Rattle.archive_merge.specs.declared.fault.MergeFault.TheVariants as merges
use Rattle.archive_reader.specs.declared.fault.ReaderFault.TheVariants as reads
use Rattle.archive_recovery.specs.RecoverFaults.{IsRefused as IsNoArchive}
use Rattle.logger_core.specs.declared.fault.LogFault.{LogFault}
use Rattle.logger_core.specs.declared.fault.LogFault.TheVariants as logs
use Rattle.logging_session.specs.Crashes.{IsAllAfter}
use Rattle.logging_run.specs.declared.fault.RunFault.TheVariants as runs
use Rattle.logging_run.specs.Closing.{HasFailed, HasFlushed}
use Rattle.logging_run.specs.Handing.{items_of_run}
use Rattle.logging_run.specs.Recovering.{IsUnrecovered}
use Rattle.log_extract.specs.declared.fault.ExtractFault.{ExtractFault}
use Rattle.log_extract.specs.declared.fault.ExtractFault.TheVariants.{Archive, Merge, Source as Unread}
use Rattle.log_extract.specs.Extracting.{AreStill, IsPassed, LeavesSources}
use Rattle.pm_words.specs.declared.words.Call.TheVariants as calls
use Rattle.pm_words.specs.Asking.{UsageIsExact}
use Rattle.pm_words.specs.Sides.{IsUnread, Leaves}
use Rattle.pm_extracting.specs.Ends.{BeginMerge, CallSide, Ends, EndsDone, HasExtracted, HasLogged, HasRun, IsUnrun, MayBeLeft, Orders, handed_in, results_of}
use Rattle.pm_extracting.specs.Good.{IsBarred, IsGoodExtract, IsSoundSource, IsUnfitItem, IsUntakenItem}
use Rattle.pm_extracting.specs.Refusals.{away_status, misfit_status}

-- ---- which fault of a source it is

-- a file stands wrapped, or an offset fits no archive
abbrev pub IsOfFiles : CheckFault → Type 0
IsOfFiles (checks.Reader (reads.Compressed file)) = Unit {0}
IsOfFiles (checks.Reader (reads.NotArchive file at)) = Unit {0}
IsOfFiles fault = ⊥

-- the archive can be read and isn't sound
abbrev pub IsOfSoundness : CheckFault → Type 0
IsOfSoundness (checks.Reader fault) = ⊥
IsOfSoundness fault = Unit {0}

module _ {A B D : Type 0} (c : CallSide A B D) where
  -- The first source isn't passed, for this reason; then the files are left alone. The second isn't, where the first is.
  abbrev pub FirstIsRefused : CheckFault → Type 0
  FirstIsRefused fault = HasRun c (Err (Unread 1 fault))
      × (c.extract.first.tells → IsCheckFault (c.extract.first.wrapped_file c.extract.first_was) (contents_of (c.extract.first.held c.extract.first_was)) fault × (c.extract.disk_is ≡ c.extract.disk_was))

  abbrev pub SecondIsRefused : CheckFault → Type 0
  SecondIsRefused fault = HasRun c (Err (Unread 2 fault)) × IsPassed c.extract.first c.extract.first_was
      × (c.extract.second.tells → IsCheckFault (c.extract.second.wrapped_file c.extract.second_was) (contents_of (c.extract.second.held c.extract.second_was)) fault × (c.extract.disk_is ≡ c.extract.disk_was))

  -- Both are passed and the files are turned away, and left as they were: a file stands wrapped, or an offset fits no archive.
  abbrev pub OutputIsRefused : Type 0
  OutputIsRefused =
      ((file : FileId) × HasExtracted c (Err (Archive (runs.Compressed file)))
      × (c.extract.disk.tells → (c.extract.disk.wrapped_file c.extract.disk_was ≡ Some file) × (c.extract.disk.held c.extract.disk_is ≡ c.extract.disk.held c.extract.disk_was)))
      ⊎ ((file : FileId) × (at : ℕ) × HasExtracted c (Err (Archive (runs.NotArchive file at)))
      × (c.extract.disk.tells → IsNoArchive (contents_of (c.extract.disk.held c.extract.disk_was)) file at × (c.extract.disk.held c.extract.disk_is ≡ c.extract.disk.held c.extract.disk_was)))

  abbrev pub FilesCause : Type 0
  FilesCause = ((fault : CheckFault) × IsOfFiles fault × (FirstIsRefused fault ⊎ SecondIsRefused fault)) ⊎ OutputIsRefused

  -- the disk of the source that is named failed, or that of the output where none is
  abbrev pub DiskFaultCause : Type 0
  DiskFaultCause =
      (HasRun c (Err (Unread 1 (checks.Reader reads.DiskFault))) × Rose (c.extract.first.faults c.extract.first_was) (c.extract.first.faults c.extract.first_is))
      ⊎ ((HasRun c (Err (Unread 2 (checks.Reader reads.DiskFault))) × Rose (c.extract.second.faults c.extract.second_was) (c.extract.second.faults c.extract.second_is))
      ⊎ (HasExtracted c (Err (Archive runs.DiskFault)) × Rose (c.extract.disk.faults c.extract.disk_was) (c.extract.disk.faults c.extract.disk_is)))

-- ---- causes

-- this status, or memory was refused or a disk failed
abbrev pub ComesTo : ℕ → ℕ → Type 0
ComesTo that status = (status ≡ that) ⊎ ((status ≡ 9) ⊎ (status ≡ 5))

-- 6 only where a source or the output is turned away; always where the first source stands wrapped or is no archive, or the second where the first
-- is sound, or the output where both are.
pub record ArchiveFaultIsExact {A B D : Type 0} (c : CallSide A B D) (status : ℕ) : Type 0 where
  pub only : status ≡ 6 → FilesCause c
  pub first : (volume : ℕ) → Orders c.words volume → c.extract.first.tells → IsBarred c.extract.first c.extract.first_was → ComesTo 6 status
  pub second : (volume : ℕ) → Orders c.words volume → IsSoundSource c.extract.first c.extract.first_was → c.extract.second.tells → IsBarred c.extract.second c.extract.second_was → ComesTo 6 status
  pub output : (volume : ℕ) → Orders c.words volume → IsSoundSource c.extract.first c.extract.first_was → IsSoundSource c.extract.second c.extract.second_was → c.extract.disk.tells → IsBarred c.extract.disk c.extract.disk_was
      → ComesTo 6 status

-- 10 only where a source can be read and isn't sound, and this is the first breach; always where the first source has one, or the second where the
-- first is sound, and then that breach is told.
pub record SoundnessIsExact {A B D : Type 0} (c : CallSide A B D) (status : ℕ) : Type 0 where
  pub only : status ≡ 10 → (fault : CheckFault) × IsOfSoundness fault × (FirstIsRefused c fault ⊎ SecondIsRefused c fault)
  pub first : (volume : ℕ) → Orders c.words volume → c.extract.first.tells
      → (fault : CheckFault) → IsUnsound (c.extract.first.wrapped_file c.extract.first_was) (contents_of (c.extract.first.held c.extract.first_was)) fault
      → ((status ≡ 10) × HasRun c (Err (Unread 1 fault))) ⊎ ((status ≡ 9) ⊎ (status ≡ 5))
  pub second : (volume : ℕ) → Orders c.words volume → IsSoundSource c.extract.first c.extract.first_was → c.extract.second.tells
      → (fault : CheckFault) → IsUnsound (c.extract.second.wrapped_file c.extract.second_was) (contents_of (c.extract.second.held c.extract.second_was)) fault
      → ((status ≡ 10) × HasRun c (Err (Unread 2 fault))) ⊎ ((status ≡ 9) ⊎ (status ≡ 5))

-- 7, 12 and 13 only where the archive to which what was logged leads doesn't take the next item of the merge: its record or a file would be too long,
-- it isn't later than all that is there, or a metric is described otherwise. Always where it takes the first items and not the next one, and
-- nothing else stands in the way.
pub record RunIsExact {A B D : Type 0} (c : CallSide A B D) (k : SinkSide) (status : ℕ) : Type 0 where
  pub limit : status ≡ 7 → ((bytes : ℕ) × HasExtracted c (Err (Archive (runs.Large bytes)))) ⊎ ((file : FileId) × (number : ℕ) × HasExtracted c (Err (Archive (runs.Full file number))))
  pub not_later : status ≡ 12 → (last : Moment) × HasExtracted c (Err (Archive (runs.NotLater last)))
  pub changed : status ≡ 13 → (pmid : ℕ) × HasExtracted c (Err (Archive (runs.Changed pmid)))
  pub always : (fault : LogFault) → fault ≢ logs.NoMemory → IsUntakenItem c k fault → (status ≡ away_status fault) ⊎ (status ≡ 9)

-- 18 and 19 only where the next item of the merge can't be described: a source lacks the description of a metric or the name of an instance, or the
-- sources name an instance differently. Always where the archive takes the first items, the next one is such, and nothing else stands in the way.
pub record MergeIsExact {A B D : Type 0} (c : CallSide A B D) (k : SinkSide) (status : ℕ) : Type 0 where
  pub lacks : status ≡ 18 → (source : ℕ) × (pmid : ℕ) × HasExtracted c (Err (Merge (merges.Lacks source pmid)))
  pub clashes : status ≡ 19 → (pmid : ℕ) × HasExtracted c (Err (Merge (merges.Clashes pmid)))
  pub always : (fault : MergeFault) → IsUnfitItem c k fault → (status ≡ misfit_status fault) ⊎ (status ≡ 9)

-- ---- the files

-- recovery had answered, and no disk failed
abbrev pub HadRecovered : ℕ → Type 0
HadRecovered status = (status ≡ 0) ⊎ ((status ≡ 4) ⊎ ((status ≡ 7) ⊎ ((status ≡ 12) ⊎ ((status ≡ 13) ⊎ ((status ≡ 18) ⊎ (status ≡ 19))))))

-- The items logged are the first ones of the merge. From recovery on the disk went by them event by event, and what was logged is flushed: the files
-- are those to which this leads. What describes each item, and which comes next, says the run.
pub record HasFiled {A B D : Type 0} (c : CallSide A B D) {result : Result ℕ ExtractFault} (ran : HasExtracted c result) : Type 0 where
  pub items : items_of_run (handed_in ran.extracted) ≡ results_of ran.extracted.reports
  pub merged : BeginMerge c.extract (results_of ran.extracted.reports)
  pub flushed : c.extract.disk.tells → HasFlushed c.extract.disk ran.volume (handed_in ran.extracted) c.extract.disk_was c.extract.disk_is

-- where memory was refused nothing was touched; a source wasn't passed, and the files were left alone; they weren't recovered; or they are as after
-- any other end
abbrev pub StandsWanting : {A B D : Type 0} → CallSide A B D → Type 0
StandsWanting c = IsUnrun c.extract
    ⊎ (((number : ℕ) × (fault : CheckFault) × HasRun c (Err (Unread number fault)) × (c.extract.disk_is ≡ c.extract.disk_was))
    ⊎ ((result : Result ℕ ExtractFault) × (ran : HasExtracted c result) × ((c.extract.disk.tells → c.extract.disk.held c.extract.disk_is ≡ c.extract.disk.held c.extract.disk_was) ⊎ HasFiled c ran)))

-- where the output's disk failed it did so in the recovery; or behind that, and it went by what was logged up to there, event by event
pub record FailsSo {A B D : Type 0} (c : CallSide A B D) (ran : HasExtracted c (Err (Archive runs.DiskFault))) : Type 0 where
  pub merged : BeginMerge c.extract (items_of_run (handed_in ran.extracted))
  pub left : c.extract.disk.tells
      → IsUnrecovered c.extract.disk c.extract.disk_was runs.DiskFault c.extract.disk_is
      ⊎ ((lost : ℕ) × HasFailed c.extract.disk ran.volume (handed_in ran.extracted) c.extract.disk_was c.extract.disk_is lost)

-- where a source's did the files were left alone, or what was logged up to there is flushed
abbrev pub StandsFailed : {A B D : Type 0} → CallSide A B D → Type 0
StandsFailed c = ((number : ℕ) × HasRun c (Err (Unread number (checks.Reader reads.DiskFault))) × (c.extract.disk_is ≡ c.extract.disk_was))
    ⊎ (((number : ℕ) × (ran : HasExtracted c (Err (Unread number (checks.Reader reads.DiskFault)))) × HasFiled c ran)
    ⊎ ((ran : HasExtracted c (Err (Archive runs.DiskFault))) × FailsSo c ran))

-- each crash from now on leaves all items of the start, and behind them the whole merge
pub record KeepsAll {A B D : Type 0} (c : CallSide A B D) : Type 0 where
  pub logged : HasLogged c
  pub each : (crash : Files) → CrashImage (c.extract.disk.held c.extract.disk_is) crash → IsAllAfter (results_of logged.ran.extracted.reports) (contents_of (c.extract.disk.held c.extract.disk_was)) crash

-- All facts of a call that has ended with a status.
pub record Facts {A B D : Type 0} (c : CallSide A B D) (k : SinkSide) (status : ℕ) : Type 0 where
  -- How it ends, whole: done, done but not told, or refused, with each refusal's cause, what was logged of the merge, what is left of the files, and
  -- which lines were written.
  pub ends : Ends c k status
  -- Done: the whole merge was logged, and the line says how many items it has.
  pub done : status ≡ 0 → EndsDone c k
  -- Done: no call of a disk or of the sink failed, not even one that was tried again.
  pub quiet : status ≡ 0 → AreStill c.extract × (c.extract.disk.faults c.extract.disk_is ≡ c.extract.disk.faults c.extract.disk_was) × (k.faults_after ≡ k.faults)
  -- Each other status comes for its cause alone.
  pub usage : UsageIsExact calls.Extract c.words status
  pub write_fault : status ≡ 4 → HasLogged c × Rose k.faults k.faults_after
  pub disk_fault : status ≡ 5 → DiskFaultCause c
  pub archive_fault : ArchiveFaultIsExact c status
  pub unsound : SoundnessIsExact c status
  pub run_refused : RunIsExact c k status
  pub merge_refused : MergeIsExact c k status
  -- Refused words touch nothing.
  pub unrun : status ≡ 1 → IsUnrun c.extract
  -- Whatever the status, the sources are as they were.
  pub sources : LeavesSources c.extract
  -- A source that isn't sound leaves the files alone.
  pub untouched : status ≡ 10 → c.extract.disk_is ≡ c.extract.disk_was
  -- The files after every status but 1, 5, 6, 9 and 10; after 9; and after 5.
  pub files : HadRecovered status → (result : Result ℕ ExtractFault) × (ran : HasExtracted c result) × HasFiled c ran
  pub wanting : status ≡ 9 → StandsWanting c
  pub failed : status ≡ 5 → StandsFailed c
  -- After the same statuses: no call of a disk failed.
  pub still : HadRecovered status → AreStill c.extract × (c.extract.disk.faults c.extract.disk_is ≡ c.extract.disk.faults c.extract.disk_was)
  -- A settled disk is settled after every status but 5.
  pub settled : status ≢ 5 → c.extract.disk.tells → IsSettled (c.extract.disk.held c.extract.disk_was) → IsSettled (c.extract.disk.held c.extract.disk_is)
  -- Nothing that was there is lost: a crash at any moment leaves what one at the start might have left, or over a settled disk all items of the start
  -- and the first ones of the merge.
  pub any_moment : Leaves c.extract.disk c.extract.disk_was c.extract.disk_is (MayBeLeft c)
  -- Files that are no archive stay as they were.
  pub unread : IsUnread c.extract.disk c.extract.disk_was → Leaves c.extract.disk c.extract.disk_was c.extract.disk_is CrashImage
  -- Once it has ended with 0, each crash leaves the whole merge, until something else touches the disk.
  pub kept : status ≡ 0 → c.extract.disk.tells → KeepsAll c
  -- Unless a count rises or memory is refused, the merge of sound sources is logged to the last item.
  pub completes : IsGoodExtract c k → (status ≡ 0) ⊎ (status ≡ 9)
