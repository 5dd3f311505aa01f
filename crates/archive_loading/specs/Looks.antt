-- What a call does to a disk of which it only reads.
use Rattle.std.specs.Prelude.{◌≡◌, ◌≤◌}
use Rattle.pcp_model.specs.Disk.{CrashImage}
use Rattle.pcp_outside.specs.declared.disk.Disk.{Ghosts as DiskGhosts}
use Rattle.pcp_outside.specs.Causes.{Rose}
use Rattle.pcp_outside.specs.Devices.{LeavesOnly}
use Rattle.archive_loading.specs.declared.lack.Lack.{Lack}
use Rattle.archive_loading.specs.declared.lack.Lack.TheVariants.{Disk, Memory}

-- the files stay as they were, at every moment, and the count of faults doesn't fall
pub record Looks {D : Type 0} (g : DiskGhosts D) (old new : D) : Type 0 where
  pub later : g.faults old ≤ g.faults new
  pub held : g.tells → g.held new ≡ g.held old
  pub wrapped : g.tells → g.wrapped_file new ≡ g.wrapped_file old
  pub moments : g.tells → LeavesOnly g.moment g.left_since old new (CrashImage (g.held old))

-- a disk is named as failed only where its count of faults rose
abbrev pub Blames : {D : Type 0} → DiskGhosts D → D → D → Lack → Type 0
Blames g old new Disk = Rose (g.faults old) (g.faults new)
Blames g old new Memory = Unit {0}
