-- What the status of a call that pulls tells, fact by fact. "Always" yields to want of memory (9) and to a disk that fails (5), which no clause
-- can foresee.
use Rattle.std.specs.Prelude.{◌≡◌, ◌≢◌, ◌⊎◌, ℕ, List, map, length, Some, Result, Ok, Err}
use Rattle.pcp_base.specs.Time.{Moment}
use Rattle.pcp_base.specs.declared.file.FileId.{FileId}
use Rattle.pcp_base.specs.declared.result.Item.{Item}
use Rattle.pcp_base.specs.declared.result.Item.TheVariants as items
use Rattle.pcp_model.specs.Disk.{Files, CrashImage, IsSettled, contents_of}
use Rattle.pcp_outside.specs.Causes.{Rose}
use Rattle.pcp_outside.specs.Sides.{SinkSide}
use Rattle.archive_recovery.specs.RecoverFaults.{IsRefused as IsNoArchive}
use Rattle.logger_core.specs.declared.fault.LogFault.{LogFault}
use Rattle.logger_core.specs.declared.fault.LogFault.TheVariants as logs
use Rattle.logging_session.specs.Crashes.{IsAllAfter, LosesAtMostOne}
use Rattle.logging_session.specs.Events.{closing}
use Rattle.logging_run.specs.declared.fault.RunFault.TheVariants as runs
use Rattle.logging_run.specs.Closing.{HasFailed, HasFlushed}
use Rattle.logging_run.specs.Handing.{events_of, items_of_run}
use Rattle.pmcd_client.specs.declared.faults.ReplyFault.{ReplyFault}
use Rattle.pmcd_client.specs.declared.faults.TalkFault.TheVariants as talks
use Rattle.pmcd_client.specs.Talks.{Sample}
use Rattle.pm_words.specs.declared.words.Call.TheVariants as calls
use Rattle.pm_words.specs.declared.words.PullWords.{PullWords}
use Rattle.pm_words.specs.Asking.{UsageIsExact}
use Rattle.pm_words.specs.Sides.{IsUnread, Leaves}
use Rattle.pm_pulling.specs.declared.stop.Stop.{Stop}
use Rattle.pm_pulling.specs.declared.stop.Stop.TheVariants.{Talk, Archive}
use Rattle.pm_pulling.specs.Ends.{CallSide, Ends, EndsDone, HasRun, IsUnrun, MayBeLeft, Orders}
use Rattle.pm_pulling.specs.Good.{IsBadPeer, IsGoodPull, IsUntakenSample}
use Rattle.pm_pulling.specs.Pulling.{Came, IsSilent, IsWithin, Says, handed_in}
use Rattle.pm_pulling.specs.Stops.{away_status}

-- ---- causes

-- a request couldn't be written, or the line at the end couldn't
abbrev pub WriteFaultCause : {D : Type 0} → CallSide D → SinkSide → Type 0
WriteFaultCause c k =
    (HasRun c (Err (Talk talks.WriteFault)) × Rose c.pull.request.faults c.pull.request.faults_after) ⊎ (HasRun c (Ok tt) × Rose k.faults k.faults_after)

-- the files are turned away: a file stands wrapped, or an offset fits no archive
abbrev pub FilesCause : {D : Type 0} → CallSide D → Type 0
FilesCause c = ((file : FileId) × HasRun c (Err (Archive (runs.Compressed file))) × (c.pull.disk.tells → c.pull.disk.wrapped_file c.pull.disk_was ≡ Some file))
    ⊎ ((file : FileId) × (at : ℕ) × HasRun c (Err (Archive (runs.NotArchive file at))) × (c.pull.disk.tells → IsNoArchive (contents_of (c.pull.disk.held c.pull.disk_was)) file at))

-- 6 only where they are, and then nothing was asked of the peer; always where a file stands wrapped or the files can't be read, unless the disk
-- fails before
pub record ArchiveFaultIsExact {D : Type 0} (c : CallSide D) (status : ℕ) : Type 0 where
  pub only : status ≡ 6 → FilesCause c × IsSilent c.pull.reply c.pull.request
  pub always : (asked : PullWords) → Orders c.words asked → c.pull.disk.tells → (file : FileId) → c.pull.disk.wrapped_file c.pull.disk_was ≡ Some file → (status ≡ 6) ⊎ ((status ≡ 9) ⊎ (status ≡ 5))
  pub unreadable : (asked : PullWords) → Orders c.words asked → c.pull.disk.tells → IsUnread c.pull.disk c.pull.disk_was → (status ≡ 6) ⊎ ((status ≡ 9) ⊎ (status ≡ 5))

-- 7, 12 and 13 only where the archive to which what was logged leads doesn't take the next sample: its record or a file would be too long, it isn't
-- later than all that is there, or a metric is described otherwise. Always where it doesn't take one of the samples that are asked for, and nothing
-- else stands in the way.
pub record RunIsExact {D : Type 0} (c : CallSide D) (k : SinkSide) (status : ℕ) : Type 0 where
  pub limit : status ≡ 7 → ((bytes : ℕ) × HasRun c (Err (Archive (runs.Large bytes)))) ⊎ ((file : FileId) × (number : ℕ) × HasRun c (Err (Archive (runs.Full file number))))
  pub not_later : status ≡ 12 → (last : Moment) × HasRun c (Err (Archive (runs.NotLater last)))
  pub changed : status ≡ 13 → (pmid : ℕ) × HasRun c (Err (Archive (runs.Changed pmid)))
  pub always : (fault : LogFault) → fault ≢ logs.NoMemory → IsUntakenSample c k fault → (status ≡ away_status fault) ⊎ (status ≡ 9)

-- 16 only where the reply with this number is the first that doesn't fit, for this reason; always where the replies hold such a one within the
-- samples that are asked for, and nothing else stands in the way.
pub record PeerIsExact {D : Type 0} (c : CallSide D) (k : SinkSide) (status : ℕ) : Type 0 where
  pub only : status ≡ 16 → (number : ℕ) × (why : ReplyFault) × HasRun c (Err (Talk (talks.Peer number why)))
  pub always : IsBadPeer c k → (status ≡ 16) ⊎ (status ≡ 9)

-- ---- the dialogue

-- What was asked and replied, whatever the status: nothing; or, about the names that the words ask for, the requests that follow from the replies, and
-- these replies, of at most as many samples as are asked for. Where a request couldn't be written a front of it was.
abbrev pub HasTalked : {D : Type 0} → CallSide D → Type 0
HasTalked c = IsSilent c.pull.reply c.pull.request
    ⊎ ((asked : PullWords) × Orders c.words asked × (came : Came) × (samples : List Sample) × Says came asked.names c.pull.reply c.pull.request samples × IsWithin came (length samples) asked.samples)

-- ---- the files

-- the items of samples
abbrev pub results_of : List Sample → List Item
results_of samples = map (λ (x : Sample). items.Sample x.result) samples

-- recovery had answered, and the disk hasn't failed
abbrev pub HadRecovered : ℕ → Type 0
HadRecovered status = (status ≡ 0) ⊎ ((status ≡ 3) ⊎ ((status ≡ 4) ⊎ ((status ≡ 7) ⊎ ((status ≡ 12) ⊎ ((status ≡ 13) ⊎ (status ≡ 16))))))

-- The items logged are the results of the samples that came, in their order, but for a last one that isn't logged. From recovery on the disk went by
-- them event by event, a crash loses at most the last one, and what was logged is flushed: the files are those to which this leads.
pub record HasFiled {D : Type 0} (c : CallSide D) {result : Result (Unit {0}) Stop} (ran : HasRun c result) : Type 0 where
  pub items : items_of_run (handed_in ran.pulled) ≡ results_of ran.pulled.logged
  pub loses_one : LosesAtMostOne (closing (events_of (handed_in ran.pulled)))
  pub flushed : c.pull.disk.tells → HasFlushed c.pull.disk ran.asked.volume (handed_in ran.pulled) c.pull.disk_was c.pull.disk_is

-- where memory was refused nothing was touched; the files weren't recovered; or they are as after any other end
abbrev pub StandsWanting : {D : Type 0} → CallSide D → Type 0
StandsWanting c = IsUnrun c.pull
    ⊎ ((result : Result (Unit {0}) Stop) × (ran : HasRun c result) × ((IsSilent c.pull.reply c.pull.request × (c.pull.disk.tells → c.pull.disk.held c.pull.disk_is ≡ c.pull.disk.held c.pull.disk_was)) ⊎ HasFiled c ran))

-- where the disk failed behind recovery, it went by what was logged up to there, event by event, and a crash loses at most the last one
abbrev pub StandsFailed : {D : Type 0} → CallSide D → Type 0
StandsFailed c = (ran : HasRun c (Err (Archive runs.DiskFault)))
    × (IsSilent c.pull.reply c.pull.request
    ⊎ (LosesAtMostOne (events_of (handed_in ran.pulled)) × (c.pull.disk.tells → (lost : ℕ) × HasFailed c.pull.disk ran.asked.volume (handed_in ran.pulled) c.pull.disk_was c.pull.disk_is lost)))

-- each crash from now on leaves all items of the start, and all that were logged
pub record KeepsAll {D : Type 0} (c : CallSide D) : Type 0 where
  pub ran : HasRun c (Ok tt)
  pub each : (crash : Files) → CrashImage (c.pull.disk.held c.pull.disk_is) crash → IsAllAfter (results_of ran.pulled.logged) (contents_of (c.pull.disk.held c.pull.disk_was)) crash

-- All facts of a call that has ended with a status.
pub record Facts {D : Type 0} (c : CallSide D) (k : SinkSide) (status : ℕ) : Type 0 where
  -- How it ends, whole: done, done but not told, or refused, with each refusal's cause, what was taken of the replies and written as requests, what
  -- is left of the files, and which line was written.
  pub ends : Ends c k status
  -- Done: all replies fit, as many samples were logged as were asked for, and the line says how many.
  pub done : status ≡ 0 → EndsDone c k
  -- Done: no call of the source, of a sink or of the disk failed, not even one that was tried again.
  pub quiet : status ≡ 0
      → (c.pull.reply.faults_after ≡ c.pull.reply.faults) × (c.pull.request.faults_after ≡ c.pull.request.faults) × (k.faults_after ≡ k.faults) × (c.pull.disk.faults c.pull.disk_is ≡ c.pull.disk.faults c.pull.disk_was)
  -- Each other status comes for its cause alone.
  pub usage : UsageIsExact calls.Pull c.words status
  pub reading : status ≡ 3 → HasRun c (Err (Talk talks.ReadFault)) × Rose c.pull.reply.faults c.pull.reply.faults_after
  pub write_fault : status ≡ 4 → WriteFaultCause c k
  pub disk_fault : status ≡ 5 → Rose (c.pull.disk.faults c.pull.disk_was) (c.pull.disk.faults c.pull.disk_is)
  pub archive_fault : ArchiveFaultIsExact c status
  pub run_refused : RunIsExact c k status
  pub peer : PeerIsExact c k status
  -- Refused words touch nothing.
  pub unrun : status ≡ 1 → IsUnrun c.pull
  -- What was asked is what follows from the replies taken, and nothing else was asked or taken.
  pub dialogue : HasTalked c
  -- Done, also where that couldn't be told: as many samples were logged as were asked for.
  pub sampled : (status ≡ 0) ⊎ ((status ≡ 4) × (Rose c.pull.request.faults c.pull.request.faults_after → ⊥)) → HasRun c (Ok tt)
  -- The files after every status but 1, 5, 6 and 9; after 9; and after 5.
  pub files : HadRecovered status → (result : Result (Unit {0}) Stop) × (ran : HasRun c result) × HasFiled c ran
  pub wanting : status ≡ 9 → StandsWanting c
  pub failed : status ≡ 5 → StandsFailed c
  -- Files that are turned away are as they were.
  pub turned_away : status ≡ 6 → c.pull.disk.tells → c.pull.disk.held c.pull.disk_is ≡ c.pull.disk.held c.pull.disk_was
  -- A settled disk is settled after every status but 5.
  pub settled : status ≢ 5 → c.pull.disk.tells → IsSettled (c.pull.disk.held c.pull.disk_was) → IsSettled (c.pull.disk.held c.pull.disk_is)
  -- Nothing that was there is lost: a crash at any moment leaves what one at the start might have left, or over a settled disk all items of the start
  -- and the first ones of the run's.
  pub any_moment : Leaves c.pull.disk c.pull.disk_was c.pull.disk_is (MayBeLeft c)
  -- Files that are no archive stay as they were.
  pub unread : IsUnread c.pull.disk c.pull.disk_was → Leaves c.pull.disk c.pull.disk_was c.pull.disk_is CrashImage
  -- Once it has ended with 0, each crash leaves all results, until something else touches the disk.
  pub kept : status ≡ 0 → c.pull.disk.tells → KeepsAll c
  -- Unless a count rises or memory is refused, a peer's samples are logged to the last one.
  pub completes : IsGoodPull c k → (status ≡ 0) ⊎ (status ≡ 9)
