-- What a run makes of files: they are recovered, results are logged, and at the end what was logged is flushed.
use Rattle.std.specs.Prelude.{◌≡◌, ◌≢◌, ◌⊎◌, ℕ, ◌≤◌, List, [], ◌++◌, None}
use Rattle.pcp_base.specs.declared.file.FileId.{FileId}
use Rattle.pcp_base.specs.declared.result.Item.{Item}
use Rattle.pcp_model.specs.Archive.{ArchiveReading, Reads}
use Rattle.pcp_model.specs.Disk.{Files, CrashImage, IsSettled, contents_of}
use Rattle.pcp_model.specs.Recovered.{Recovers}
use Rattle.pcp_outside.specs.Devices.{LeavesOnly}
use Rattle.pcp_outside.specs.declared.disk.Disk.{Ghosts as DiskGhosts}
use Rattle.archive_recovery.specs.declared.outcome.RecoverFault.{RecoverFault}
use Rattle.archive_recovery.specs.declared.outcome.RecoverFault.TheVariants as recovery
use Rattle.archive_recovery.specs.Halfway.{MayBeHalfway}
use Rattle.archive_recovery.specs.RecoverFaults.{IsRecoverFault}
use Rattle.logging_session.specs.ComingBack.{MayBeAfter}
use Rattle.logging_session.specs.Course.{LeadsTo, WentBy}
use Rattle.logging_session.specs.Crashes.{IsAllAfter}
use Rattle.logging_session.specs.Events.{Event, closing, items_by}
use Rattle.logging_session.specs.Keeping.{AreWhole}
use Rattle.script_runs.specs.declared.ending.Ending.{Ending}
use Rattle.script_runs.specs.declared.ending.Ending.TheVariants as ends
use Rattle.script_runs.specs.Archives.{run_label}

-- the events with those of the end: unless the disk failed, what was logged is flushed
abbrev pub ended : Ending → List Event → List Event
ended ends.DiskFault events = events
ended ending events = closing events

-- A run over what recovery left, from that moment on.
module _ {D : Type 0} (d : DiskGhosts D) (limit : ℕ) (left : Files) (events : List Event) (more : List Item) (start new : D) where
  -- What was logged is flushed: the files are those to which these events lead, and settled.
  pub record HasFlushed : Type 0 where
    pub none : more ≡ []
    pub files : LeadsTo run_label limit left (closing events) (contents_of (d.held new))
    pub settled : IsSettled (d.held new)
    pub whole : AreWhole left → AreWhole (contents_of (d.held new))

  -- It ended so, and unless the disk failed what was logged is flushed.
  pub record HasFinished (ending : Ending) : Type 0 where
    pub went : WentBy d run_label limit left (ended ending events) more start new
    pub flushed : ending ≢ ends.DiskFault → HasFlushed

module _ {D : Type 0} (d : DiskGhosts D) (limit : ℕ) (events : List Event) (more : List Item) (old new : D) where
  -- The files are those to which these events lead, all is settled, recovery changes nothing of it, and a crash leaves each item.
  pub record IsFlushed (left : Files) : Type 0 where
    pub none : more ≡ []
    pub files : LeadsTo run_label limit left (closing events) (contents_of (d.held new))
    pub settled : IsSettled (d.held new)
    pub whole : AreWhole (contents_of (d.held new))
    pub survive : (image : Files) → CrashImage (d.held new) image → IsAllAfter (items_by events) (contents_of (d.held old)) image

  -- Recovery answered: no file stood wrapped, and at that moment the files were what it leaves of those at the start, each byte sure. From
  -- then on the disk went by these events, as far as the opening, flushes and syncs tell; of more items, which were on their way, the first
  -- ones may stand.
  pub record WentOn (ending : Ending) : Type 0 where
    pub reading : ArchiveReading
    pub was : Reads (contents_of (d.held old)) reading
    pub unwrapped : d.wrapped_file old ≡ None
    pub middle : D
    pub later : d.moment old ≤ d.moment middle
    pub recovered : Recovers (contents_of (d.held old)) reading (contents_of (d.held middle))
    pub sure : (file : FileId) → (d.held middle file).rest ≡ []
    pub went : WentBy d run_label limit (contents_of (d.held middle)) (ended ending events) more middle new
    pub flushed : ending ≢ ends.DiskFault → IsFlushed (contents_of (d.held middle))

  -- what recovery left
  abbrev pub left_of : {ending : Ending} → WentOn ending → Files
  left_of w = contents_of (d.held w.middle)

-- how a run ends whose files aren't recovered
abbrev pub ended_by : RecoverFault → Ending
ended_by (recovery.Compressed file) = ends.Compressed file
ended_by (recovery.NotArchive file at) = ends.NotArchive file at
ended_by recovery.DiskFault = ends.DiskFault
ended_by recovery.NoMemory = ends.NoMemory

-- It didn't answer: the files were turned away, the disk failed on its way, or memory was refused before or in it.
module _ {D : Type 0} (d : DiskGhosts D) (old new : D) where
  abbrev pub IsUnrecovered : Ending → Type 0
  IsUnrecovered (ends.NotArchive file at) = IsRecoverFault (d.wrapped_file old) (contents_of (d.held old)) (recovery.NotArchive file at) × (d.held new ≡ d.held old)
  IsUnrecovered (ends.Compressed file) = IsRecoverFault (d.wrapped_file old) (contents_of (d.held old)) (recovery.Compressed file) × (d.held new ≡ d.held old)
  IsUnrecovered ends.DiskFault = LeavesOnly d.moment d.left_since old new (MayBeHalfway (d.held old))
  IsUnrecovered ends.NoMemory = d.held new ≡ d.held old
  IsUnrecovered ending = ⊥

-- Where nothing was run this is so, and else that of what recovery left. A crash at any moment, over a settled disk, leaves all items of the
-- start and the first ones of the run.
pub record RunsOnFiles {D : Type 0} (d : DiskGhosts D) (limit : ℕ) (events : List Event) (more : List Item) (old new : D) (ending : Ending) (RanNothing : Type 0) (Did : Files → Type 0) : Type 0 where
  pub any_moment : LeavesOnly d.moment d.left_since old new (MayBeAfter (items_by events ++ more) 0 (d.held old))
  pub begun : (IsUnrecovered d old new ending × (events ≡ []) × (more ≡ []) × RanNothing)
      ⊎ ((w : WentOn d limit events more old new ending) × Did (left_of d limit events more old new w))
