-- A run between its calls, over any disk: what was handed in, and how it stands. One relation leads from the disk at its start to its end.
use Rattle.std.specs.Prelude.{◌≡◌, ◌⊎◌, ℕ, List, [], ◌∷◌, ◌++◌, length}
use Rattle.pcp_model.specs.Disk.{Files, CrashImage, IsSettled, contents_of}
use Rattle.pcp_outside.specs.Causes.{Rose, shown_count}
use Rattle.pcp_outside.specs.declared.disk.Disk.{Ghosts as DiskGhosts}
use Rattle.logger_core.specs.declared.fault.LogFault.{LogFault}
use Rattle.logger_core.specs.declared.fault.LogFault.TheVariants as logs
use Rattle.logging_session.specs.Course.{HasKept}
use Rattle.logging_session.specs.Crashes.{IsAllAfter}
use Rattle.logging_session.specs.Events.{Event, LeadFrom, opening}
use Rattle.logging_session.specs.Keeping.{Carried, IsFailed, IsOpen, IsWorking, lost_in}
use Rattle.logging_session.specs.Written.{Refuses, Report, Stand, Written}
use Rattle.logging_run.specs.declared.fault.RunFault.{RunFault}
use Rattle.logging_run.specs.declared.fault.RunFault.TheVariants as faults
use Rattle.logging_run.specs.Closing.{Close, Ran}
use Rattle.logging_run.specs.Handing.{Handed, events_of, items_of_run, reports_of}
use Rattle.logging_run.specs.Named.{run_label}
use Rattle.logging_run.specs.Recovering.{HasRecovered, IsRecovered}

module _ {D : Type 0} (d : DiskGhosts D) (limit : ℕ) (handed : List Handed) (run : Carried) (old new : D) where
  -- over a disk that tells: recovery answered, and from that moment on the disk went by the events of what was handed in
  pub record GoesBy : Type 0 where
    pub middle : D
    pub recovered : HasRecovered d old middle
    pub kept : HasKept d (contents_of (d.held middle)) (events_of handed) middle run new

  -- These were handed in since the disk at the start, and no call of the disk has failed. Where memory was refused when the archive was to be
  -- opened nothing more is logged.
  pub record Rests : Type 0 where
    pub label : run.label ≡ run_label
    pub limit_is : run.limit ≡ limit
    pub unfailed : IsFailed run → ⊥
    -- before the archive is open nothing is logged
    pub unopened : (IsOpen run → ⊥) → run.logged ≡ 0
    pub counted : run.logged ≡ shown_count (length (reports_of handed))
    pub quiet : d.faults new ≡ d.faults old
    pub told : d.tells → GoesBy

  -- so it is, and the run may go on
  pub record Runs : Type 0 where
    pub rests : Rests
    pub working : IsWorking run

  -- The disk failed, and nothing more is done.
  pub record Fails : Type 0 where
    pub failed : IsFailed run
    pub rose : Rose (d.faults old) (d.faults new)
    pub told : d.tells → Ran d limit handed old new (Close.failed (lost_in run.place))

-- Over what recovery leaves of these files, the archive to which the events lead, opened for the result where it wasn't open, doesn't take it,
-- for this reason.
pub record IsTurnedAway (limit : ℕ) (start : Files) (events : List Event) (r : Report) (fault : LogFault) : Type 0 where
  pub left : Files
  pub recovered : IsRecovered start left
  pub w : Written
  pub lead : LeadFrom run_label limit left (opening r.result.stamp events) (Stand.opened w)
  pub refuses : Refuses limit r w fault

module _ {D : Type 0} (d : DiskGhosts D) (limit : ℕ) (handed : List Handed) (r : Report) (run : Carried) (old new : D) where
  -- the archive turned the result away, and the run may go on
  pub record TurnsAway (fault : LogFault) : Type 0 where
    pub runs : Runs d limit (handed ++ Handed.refused r ∷ []) run old new
    pub away : d.tells → IsTurnedAway limit (contents_of (d.held old)) (events_of handed) r fault

  -- What stands where a result isn't logged: a refusal has its cause in the archive. For want of memory the archive may have been opened for it.
  -- Where the disk failed it was logged or not: if it was, it is among those that may be lost.
  abbrev pub Stops : RunFault → Type 0
  Stops (faults.Large bytes) = TurnsAway (logs.Large bytes)
  Stops (faults.NotLater last) = TurnsAway (logs.NotLater last)
  Stops (faults.Changed pmid) = TurnsAway (logs.Changed pmid)
  Stops (faults.Full file bytes) = TurnsAway (logs.Full file bytes)
  Stops faults.NoMemory = Rests d limit handed run old new ⊎ Rests d limit (handed ++ Handed.refused r ∷ []) run old new
  Stops faults.DiskFault = Fails d limit handed run old new ⊎ Fails d limit (handed ++ Handed.held r ∷ []) run old new
  Stops (faults.Compressed file) = ⊥
  Stops (faults.NotArchive file at) = ⊥

-- All is settled, and each crash from now on leaves all items of the start and all that the run has logged.
pub record IsAllSure {D : Type 0} (d : DiskGhosts D) (handed : List Handed) (old new : D) : Type 0 where
  pub settled : IsSettled (d.held new)
  pub survive : (image : Files) → CrashImage (d.held new) image → IsAllAfter (items_of_run handed) (contents_of (d.held old)) image
