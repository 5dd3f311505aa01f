-- What the run of a script on regions tells.
use Rattle.std.specs.Prelude.{◌≡◌, ℕ, ◌≤◌, [], length, slice_get, Option, Some}
use Rattle.pcp_model.specs.Disk.{CrashImage}
use Rattle.pcp_outside.specs.declared.disk.Disk.{Ghosts as DiskGhosts}
use Rattle.fetch_engine.specs.Servers.{IsSeated, Seated}
use Rattle.run_script.specs.declared.script.Script.{Script}
use Rattle.run_passes.specs.Crews.{ServesScript}
use Rattle.run_passes.specs.declared.opening.Opened.{Opened}
use Rattle.run_archive.specs.declared.replayed.Replayed.{Replayed}
use Rattle.run_archive.specs.Endings.{MayEnd}
use Rattle.record_run.specs.Replays.{IsReplay}
use Rattle.pm_words.specs.Sides.{IsUnread, Leaves}

-- regions of the script are there, which one seat reads, and this is its run on them
pub record WasRun {D : Type 0} (g : DiskGhosts D) (script : Script) (limit : ℕ) (old new : D) (opened : Option Opened) (r : Replayed) : Type 0 where
  pub there : Opened
  pub there_is : opened ≡ Some there
  pub serves : ServesScript script 1 there.server
  pub passes : there.passes.items ≡ []
  pub seats : length there.seats.items ≡ 1
  pub seat : Seated
  pub seat_is : slice_get there.seats.items 0 ≡ Some seat
  pub seated : IsSeated there.server seat.tokens
  pub is : IsReplay g script limit there.server seat.tokens old new r
  pub unread : IsUnread g old → Leaves g old new CrashImage
  pub cause : MayEnd (g.faults old) (g.faults new) r.ending
  pub later : g.faults old ≤ g.faults new
