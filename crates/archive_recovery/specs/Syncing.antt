-- Files whose bytes are made sure.
use Rattle.std.specs.Prelude.{◌≡◌, ℕ, ◌<◌, []}
use Rattle.pcp_base.specs.declared.file.FileId.{FileId}
use Rattle.pcp_base.specs.declared.file.FileId.TheVariants.{Meta, Index, Volume}
use Rattle.pcp_model.specs.Disk.{Holdings, CrashImage, bytes_of}
use Rattle.pcp_outside.specs.declared.disk.Disk.{Ghosts as DiskGhosts}
use Rattle.pcp_outside.specs.Devices.{LeavesOnly}

-- each file holds the bytes that it held, and of these files all of them are sure
pub record MadeSure (Such : FileId → Type 0) (old new : Holdings) : Type 0 where
  pub bytes : (file : FileId) → bytes_of (new file) ≡ bytes_of (old file)
  pub kept : (file : FileId) → (old file).rest ≡ [] → (new file).rest ≡ []
  pub sure : (file : FileId) → Such file → (new file).rest ≡ []

abbrev pub IsVolumeBelow : ℕ → FileId → Type 0
IsVolumeBelow n Meta = ⊥
IsVolumeBelow n Index = ⊥
IsVolumeBelow n (Volume k) = k < n

abbrev pub IsAny : FileId → Type 0
IsAny file = Unit {0}

-- so far volumes below a number were made sure, no call failed, and a crash leaves what it would have left before
pub record Syncing {D : Type 0} (g : DiskGhosts D) (n : ℕ) (old new : D) : Type 0 where
  pub quiet : g.faults new ≡ g.faults old
  pub held : g.tells → MadeSure (IsVolumeBelow n) (g.held old) (g.held new)
  pub moments : g.tells → LeavesOnly g.moment g.left_since old new (CrashImage (g.held old))
  pub wrapped : g.tells → g.wrapped_file new ≡ g.wrapped_file old
