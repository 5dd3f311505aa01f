-- What a run made of files: they were recovered, results were logged, and at the end what was logged was flushed, unless the disk failed.
use Rattle.std.specs.Prelude.{◌≡◌, ℕ, List, [], ◌++◌, length}
use Rattle.pcp_model.specs.Disk.{Files, CrashImage, IsSettled, contents_of}
use Rattle.pcp_outside.specs.Devices.{LeavesOnly}
use Rattle.pcp_outside.specs.declared.disk.Disk.{Ghosts as DiskGhosts}
use Rattle.logging_session.specs.ComingBack.{MayBeAfter}
use Rattle.logging_session.specs.Course.{HasPassed, LeadsTo, WentBy}
use Rattle.logging_session.specs.Crashes.{IsAllAfter}
use Rattle.logging_session.specs.Events.{Event, closing, logged_all}
use Rattle.logging_session.specs.Keeping.{AreWhole}
use Rattle.logging_session.specs.Written.{Report}
use Rattle.logging_run.specs.declared.fault.RunFault.{RunFault}
use Rattle.logging_run.specs.Handing.{Handed, events_of, items_of_run}
use Rattle.logging_run.specs.Named.{run_label}
use Rattle.logging_run.specs.Recovering.{HasRecovered, IsUnrecovered}

-- How a run ended: its files weren't recovered, for this fault; what was logged was flushed; or the disk failed, and of the results that were
-- logged so many of the last are lost.
pub data Close : Type 0 where
  unrecovered : RunFault → Close
  flushed : Close
  failed : ℕ → Close

module _ {D : Type 0} (d : DiskGhosts D) (limit : ℕ) (handed : List Handed) (old new : D) where
  -- From the moment on at which recovery answered the disk went by the events of the run. At the end the files are those to which they lead,
  -- all is settled, recovery changes nothing of it, and each crash leaves every item.
  pub record HasFlushed : Type 0 where
    pub middle : D
    pub recovered : HasRecovered d old middle
    pub went : WentBy d run_label limit (contents_of (d.held middle)) (closing (events_of handed)) [] middle new
    pub files : LeadsTo run_label limit (contents_of (d.held middle)) (closing (events_of handed)) (contents_of (d.held new))
    pub settled : IsSettled (d.held new)
    pub whole : AreWhole (contents_of (d.held new))
    pub survive : (image : Files) → CrashImage (d.held new) image → IsAllAfter (items_of_run handed) (contents_of (d.held old)) image

  -- From that moment on the disk went by these events, as far as the opening, flushes and syncs tell. By some moment it held exactly what they
  -- lead to without the results that are lost, and from then on it holds the first ones of all.
  pub record HasFailed (lost : ℕ) : Type 0 where
    pub middle : D
    pub recovered : HasRecovered d old middle
    pub went : WentBy d run_label limit (contents_of (d.held middle)) (events_of handed) [] middle new
    pub done : List Event
    pub gone : List Report
    pub is : events_of handed ≡ done ++ logged_all gone
    pub many : length gone ≡ lost
    pub passed : HasPassed d run_label limit (contents_of (d.held middle)) done (items_of_run handed) middle new

  abbrev pub CameTo : Close → Type 0
  CameTo (Close.unrecovered fault) = IsUnrecovered d old fault new × (handed ≡ [])
  CameTo Close.flushed = HasFlushed
  CameTo (Close.failed lost) = HasFailed lost

  -- A crash at any moment, over a settled disk, leaves all items of the start and the first ones of the run.
  pub record Ran (close : Close) : Type 0 where
    pub any_moment : LeavesOnly d.moment d.left_since old new (MayBeAfter (items_of_run handed) 0 (d.held old))
    pub came : CameTo close
