-- What a call that pulls makes of a peer and of a disk: what was said, which samples came of it, and what was logged of them.
use Rattle.std.specs.Prelude.{◌≡◌, ◌≢◌, ◌⊎◌, ℕ, ◌<◌, ◌≤◌, List, [], ◌∷◌, ◌++◌, length, map, Result, Ok, Err}
use Rattle.pcp_model.specs.Disk.{CrashImage, contents_of}
use Rattle.pcp_outside.specs.Causes.{Rose}
use Rattle.pcp_outside.specs.Sides.{SourceSide, SinkSide}
use Rattle.pcp_outside.specs.declared.disk.Disk.{Ghosts as DiskGhosts}
use Rattle.logger_core.specs.declared.fault.LogFault.{LogFault}
use Rattle.logger_core.specs.declared.fault.LogFault.TheVariants as logs
use Rattle.logging_session.specs.Keeping.{Carried}
use Rattle.logging_session.specs.Written.{Report}
use Rattle.logging_run.specs.declared.fault.RunFault.{RunFault}
use Rattle.logging_run.specs.declared.fault.RunFault.TheVariants as runs
use Rattle.logging_run.specs.Closing.{Close, Ran}
use Rattle.logging_run.specs.Handing.{Handed, each_sure, events_of}
use Rattle.logging_run.specs.Running.{IsTurnedAway, Runs, Stops}
use Rattle.pmcd_client.specs.declared.faults.TalkFault.{TalkFault}
use Rattle.pmcd_client.specs.Bytes.{NoneFails}
use Rattle.pmcd_client.specs.Replies.{Standing}
use Rattle.pmcd_client.specs.Talks.{BreaksOff, Sample, Talks}
use Rattle.pm_words.specs.declared.words.PullWords.{PullWords}
use Rattle.pm_words.specs.Sides.{IsUnread, Leaves}
use Rattle.pm_pulling.specs.declared.stop.Stop.{Stop}
use Rattle.pm_pulling.specs.declared.stop.Stop.TheVariants.{Talk, Archive}

-- the peer's replies, the requests to it, and the disk, each before and after
pub record PullSide (D : Type 0) : Type 1 where
  pub reply : SourceSide
  pub request : SinkSide
  pub disk : DiskGhosts D
  pub disk_was : D
  pub disk_is : D

abbrev pub pull_side : {D : Type 0} → SourceSide → SinkSide → DiskGhosts D → D → D → PullSide D
pull_side reply request disk was is = record { reply = reply; request = request; disk = disk; disk_was = was; disk_is = is }

-- ---- what was said

-- no reply was taken, and no request written
pub record IsSilent (i : SourceSide) (o : SinkSide) : Type 0 where
  pub untaken : i.tells → i.after ≡ i.left
  pub unwritten : o.tells → o.after ≡ o.written
  pub stand : NoneFails i o

-- How far the dialogue came: it wasn't begun; it stands behind its last sample; or it broke off behind that.
pub data Came : Type 0 where
  silent : Came
  stands : Came
  broken : TalkFault → Came

-- So far a dialogue about these names came, and these samples came of it. The bytes written are the requests that follow from the replies, and
-- those taken are these replies, and nothing else.
abbrev pub Says : Came → List (List ℕ) → SourceSide → SinkSide → List Sample → Type 0
Says Came.silent names i o samples = IsSilent i o × (samples ≡ [])
Says Came.stands names i o samples = (s : Standing) × Talks names i o samples s
Says (Came.broken fault) names i o samples = BreaksOff names i o samples fault

-- ---- what was logged of it

-- a sample as it is logged
abbrev pub report_of : Sample → Report
report_of x = record { result = x.result; facts = x.facts }

-- these samples were logged, each made sure before the next one was asked for
abbrev pub all_sure : List Sample → List Handed
all_sure samples = each_sure (map report_of samples)

-- what was handed in of a sample that came last and isn't among those: nothing; it was turned away by the archive, which was opened for it; or
-- it was on its way when the disk failed
abbrev pub IsLast : List Sample → List Handed → Type 0
IsLast [] handed = handed ≡ []
IsLast (x ∷ []) handed = (handed ≡ []) ⊎ ((handed ≡ Handed.refused (report_of x) ∷ []) ⊎ (handed ≡ Handed.held (report_of x) ∷ []))
IsLast (x ∷ y ∷ samples) handed = ⊥

-- ---- between two samples

-- The dialogue stands behind these samples, and each of them is logged and made sure.
pub record GoesOn {D : Type 0} (p : PullSide D) (names : List (List ℕ)) (limit : ℕ) (samples : List Sample) (s : Standing) (run : Carried) : Type 0 where
  pub talks : Talks names p.reply p.request samples s
  pub runs : Runs p.disk limit (all_sure samples) run p.disk_was p.disk_is

-- Behind these samples, which are logged, the dialogue broke off; or one more came, and it isn't logged.
abbrev pub StopsBehind : {D : Type 0} → PullSide D → List (List ℕ) → ℕ → List Sample → Carried → Stop → Type 0
StopsBehind p names limit samples run (Talk fault) = BreaksOff names p.reply p.request samples fault × Runs p.disk limit (all_sure samples) run p.disk_was p.disk_is
StopsBehind p names limit samples run (Archive fault) =
    (x : Sample) × (s : Standing) × Talks names p.reply p.request (samples ++ x ∷ []) s × Stops p.disk limit (all_sure samples) (report_of x) run p.disk_was p.disk_is fault

-- one more sample was logged, or it stopped
abbrev pub LogsNext : {D : Type 0} → PullSide D → List (List ℕ) → ℕ → List Sample → Standing → Carried → Result (Unit {0}) Stop → Type 0
LogsNext p names limit samples s run (Ok done) = (x : Sample) × GoesOn p names limit (samples ++ x ∷ []) s run
LogsNext p names limit samples s run (Err stop) = StopsBehind p names limit samples run stop

-- so many samples were logged, or it stopped behind fewer
abbrev pub LogsAll : {D : Type 0} → PullSide D → List (List ℕ) → ℕ → ℕ → Carried → Result (Unit {0}) Stop → Type 0
LogsAll p names limit count run (Ok done) = (samples : List Sample) × (length samples ≡ count) × (s : Standing) × GoesOn p names limit samples s run
LogsAll p names limit count run (Err stop) = (samples : List Sample) × (length samples < count) × StopsBehind p names limit samples run stop

-- a dialogue that broke off did so before all samples that are asked for had come
abbrev pub IsWithin : Came → ℕ → ℕ → Type 0
IsWithin Came.silent shown asked = shown ≡ 0
IsWithin Came.stands shown asked = shown ≤ asked
IsWithin (Came.broken fault) shown asked = shown < asked

-- where the dialogue broke off each sample that had come was logged
abbrev pub IsBehindNone : Came → List Sample → Type 0
IsBehindNone came unlogged = (fault : TalkFault) → came ≡ Came.broken fault → unlogged ≡ []

-- ---- how it ended

module _ {D : Type 0} (p : PullSide D) (asked : PullWords) (came : Came) (logged unlogged : List Sample) (last : List Handed) (close : Close) where
  -- the files weren't recovered, and so nothing was asked
  pub record IsUnbegun (fault : RunFault) : Type 0 where
    pub silent : came ≡ Came.silent
    pub closed : close ≡ Close.unrecovered fault

  -- what was logged was flushed, and no call of the disk failed
  pub record IsFlushed : Type 0 where
    pub closed : close ≡ Close.flushed
    pub quiet : p.disk.faults p.disk_is ≡ p.disk.faults p.disk_was

  -- a sample came that isn't logged
  pub record ShowsLast (x : Sample) : Type 0 where
    pub stands : came ≡ Came.stands
    pub one : unlogged ≡ x ∷ []
    pub flushed : IsFlushed

  -- The archive to which what was logged leads, opened for the next sample where it wasn't open, doesn't take it, for this reason.
  pub record TurnsAway (fault : LogFault) : Type 0 where
    pub x : Sample
    pub shows : ShowsLast x
    pub handed : last ≡ Handed.refused (report_of x) ∷ []
    pub away : p.disk.tells → IsTurnedAway asked.volume (contents_of (p.disk.held p.disk_was)) (events_of (all_sure logged)) (report_of x) fault

  -- memory was refused for a sample that came, also behind the opening of the archive
  pub record IsRefusedMemory : Type 0 where
    pub x : Sample
    pub shows : ShowsLast x
    pub handed : (last ≡ []) ⊎ (last ≡ Handed.refused (report_of x) ∷ [])

  -- The disk failed once the files were recovered. Where a sample came that isn't logged nothing was asked behind it.
  pub record HasFailed : Type 0 where
    pub begun : came ≢ Came.silent
    pub behind : IsBehindNone came unlogged
    pub lost : ℕ
    pub closed : close ≡ Close.failed lost

  abbrev pub StopsFor : RunFault → Type 0
  StopsFor (runs.Compressed file) = IsUnbegun (runs.Compressed file)
  StopsFor (runs.NotArchive file at) = IsUnbegun (runs.NotArchive file at)
  StopsFor (runs.Large bytes) = TurnsAway (logs.Large bytes)
  StopsFor (runs.NotLater last) = TurnsAway (logs.NotLater last)
  StopsFor (runs.Changed pmid) = TurnsAway (logs.Changed pmid)
  StopsFor (runs.Full file bytes) = TurnsAway (logs.Full file bytes)
  StopsFor runs.NoMemory = IsUnbegun runs.NoMemory ⊎ IsRefusedMemory
  StopsFor runs.DiskFault = Rose (p.disk.faults p.disk_was) (p.disk.faults p.disk_is) × (IsUnbegun runs.DiskFault ⊎ HasFailed)

  -- Why it ended so: all samples that were asked for were logged; the dialogue broke off before; or the archive. A disk that fails while what
  -- was logged is flushed stands before whatever else ended it.
  abbrev pub Why : Result (Unit {0}) Stop → Type 0
  Why (Ok done) = (came ≡ Came.stands) × (length logged ≡ asked.samples) × (unlogged ≡ []) × IsFlushed
  Why (Err (Talk fault)) = (came ≡ Came.broken fault) × (length logged < asked.samples) × (unlogged ≡ []) × IsFlushed
  Why (Err (Archive fault)) = StopsFor fault

-- What was asked for was pulled, as far as it says: the files were recovered, then the dialogue went on sample by sample, each sample was logged and
-- made sure before the next one was asked for, and at the end what was logged was flushed.
pub record Pulled {D : Type 0} (p : PullSide D) (asked : PullWords) (result : Result (Unit {0}) Stop) : Type 0 where
  pub came : Came
  pub logged : List Sample
  pub unlogged : List Sample
  pub says : Says came asked.names p.reply p.request (logged ++ unlogged)
  pub most : IsWithin came (length (logged ++ unlogged)) asked.samples
  pub last : List Handed
  pub is_last : IsLast unlogged last
  pub close : Close
  pub ran : p.disk.tells → Ran p.disk asked.volume (all_sure logged ++ last) p.disk_was p.disk_is close
  pub why : Why p asked came logged unlogged last close result
  pub unread : IsUnread p.disk p.disk_was → Leaves p.disk p.disk_was p.disk_is CrashImage

-- what was handed to the archive
abbrev pub handed_in : {D : Type 0} {p : PullSide D} {asked : PullWords} {result : Result (Unit {0}) Stop} → Pulled p asked result → List Handed
handed_in pulled = all_sure pulled.logged ++ pulled.last
