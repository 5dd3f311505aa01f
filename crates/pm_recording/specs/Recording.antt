-- What a call that records has to do with, and what is left of a script's regions on which it was recorded, and of the clock and the disk.
use Rattle.std.specs.Prelude.{◌≡◌, ℕ, List, length, slice_get, Option, Some, None}
use Rattle.pcp_model.specs.Disk.{CrashImage}
use Rattle.pcp_outside.specs.declared.clocks.Clock.{Ghosts as ClockGhosts}
use Rattle.pcp_outside.specs.declared.disk.Disk.{Ghosts as DiskGhosts}
use Rattle.pcp_outside.specs.Sides.{SourceSide}
use Rattle.fetch_engine.specs.Servers.{IsSeated, Seated}
use Rattle.run_script.specs.declared.script.Script.{Script}
use Rattle.script_runs.specs.declared.ending.Ending.TheVariants as ends
use Rattle.run_passes.specs.Openings.{IsOpened}
use Rattle.run_passes.specs.declared.opening.Opened.{Opened}
use Rattle.run_archive.specs.declared.replayed.Replayed.{Replayed}
use Rattle.record_run.specs.Beside.{TellWriters}
use Rattle.record_run.specs.Pictured.{AreImages, AreOfWords}
use Rattle.record_run.specs.Recordings.{IsRecording, MayEndRecording}
use Rattle.pm_words.specs.Sides.{IsUnread, Leaves}
use Rattle.pm_words.specs.declared.words.RecordWords.{RecordWords}

-- the clock and the disk of a call, before and after, and the regions that it leaves
pub record RunSide (C D : Type 0) : Type 1 where
  pub clock : ClockGhosts C
  pub disk : DiskGhosts D
  pub clock_was : C
  pub clock_is : C
  pub disk_was : D
  pub disk_is : D
  pub opened : Option Opened

abbrev pub run_side : {C D : Type 0} → ClockGhosts C → DiskGhosts D → C → C → D → D → Option Opened → RunSide C D
run_side clock disk clock_was clock_is disk_was disk_is opened =
    record { clock = clock; disk = disk; clock_was = clock_was; clock_is = clock_is; disk_was = disk_was; disk_is = disk_is; opened = opened }

-- all that a call has to do with, but for its sink
pub record CallSide (C D : Type 0) : Type 1 where
  pub words : List (List ℕ)
  pub source : SourceSide
  pub run : RunSide C D

abbrev pub call_side : {C D : Type 0} → List (List ℕ) → SourceSide → RunSide C D → CallSide C D
call_side words source run = record { words = words; source = source; run = run }

-- The script was opened with one seat, and recorded on what was opened, which is left: its writers ran, the seat sampled beside and
-- behind them, and what was logged is in the files.
pub record WasRecorded {C D : Type 0} (o : RunSide C D) (asked : RecordWords) (script : Script) (left : Opened) (r : Replayed) : Type 0 where
  pub opened : Opened
  pub made : IsOpened script 1 opened
  pub server : left.server ≡ opened.server
  pub seats : length left.seats.items ≡ 1
  pub first : Seated
  pub first_is : slice_get opened.seats.items 0 ≡ Some first
  pub last : Seated
  pub last_is : slice_get left.seats.items 0 ≡ Some last
  pub seated : IsSeated left.server last.tokens
  pub recording : IsRecording o.clock o.disk o.clock_was o.clock_is o.disk_was o.disk_is script asked.volume asked.samples left.server first.tokens last.tokens r
  pub writers : TellWriters script left.server last.tokens left.passes.items r.ending
  pub cause : MayEndRecording o.clock o.disk o.clock_was o.clock_is o.disk_was o.disk_is r.ending
  -- where it came to its end no call of the disk or of the clock failed
  pub quiet : r.ending ≡ ends.Done → (o.disk.faults o.disk_is ≡ o.disk.faults o.disk_was) × (o.clock.faults o.clock_is ≡ o.clock.faults o.clock_was)
  pub unread : IsUnread o.disk o.disk_was → Leaves o.disk o.disk_was o.disk_is CrashImage

-- the call leaves what is left of a script on images of 64-bit words
pub record HasRecorded {C D : Type 0} (o : RunSide C D) (asked : RecordWords) (script : Script) (r : Replayed) : Type 0 where
  pub left : Opened
  pub kept : o.opened ≡ Some left
  pub was : WasRecorded o asked script left r
  pub images : AreImages script
  pub of_words : AreOfWords script

-- nothing was opened, and neither the disk nor the clock was touched
pub record IsUnrun {C D : Type 0} (o : RunSide C D) : Type 0 where
  pub none : o.opened ≡ None
  pub disk : o.disk_is ≡ o.disk_was
  pub clock : o.clock_is ≡ o.clock_was
