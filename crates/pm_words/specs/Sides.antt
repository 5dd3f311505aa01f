-- What a call found of each object outside, and left of it. Each side is named once, by its trait's ghosts.
use Rattle.std.specs.Prelude.{◌≡◌, ℕ, Option}
use Rattle.pcp_base.specs.declared.file.FileId.{FileId}
use Rattle.pcp_model.specs.Archive.{Readable}
use Rattle.pcp_model.specs.Disk.{Files, Holdings, contents_of}
use Rattle.pcp_outside.specs.Sides.{SourceSide}
use Rattle.pcp_outside.specs.declared.disk.Disk.{Ghosts as DiskGhosts}
use Rattle.pcp_outside.specs.Devices.{LeavesOnly}

-- of a disk: what its files held before and after, and the first that stood wrapped before
pub record DiskSide : Type 1 where
  pub tells : Type 0
  pub held : Holdings
  pub wrapped : Option FileId
  pub after : Holdings
  pub faults : ℕ
  pub faults_after : ℕ

abbrev pub disk_side : {D : Type 0} → DiskGhosts D → D → D → DiskSide
disk_side g old new = record { tells = g.tells; held = g.held old; wrapped = g.wrapped_file old; after = g.held new; faults = g.faults old; faults_after = g.faults new }

-- the files that a call found, each whole, and the first that stood wrapped
pub record Found : Type 0 where
  pub files : Files
  pub wrapped : Option FileId

abbrev pub files_found : DiskSide → Found
files_found d = record { files = contents_of d.held; wrapped = d.wrapped }

-- nothing was taken of the source
abbrev pub NotAsked : SourceSide → Type 0
NotAsked s = s.tells → s.after ≡ s.left

-- the disk holds what it held
abbrev pub Untouched : DiskSide → Type 0
Untouched d = d.tells → d.after ≡ d.held

-- a crash at any moment of the call leaves only what P allows over what the disk held
abbrev pub Leaves : {D : Type 0} → DiskGhosts D → D → D → (Holdings → Files → Type 0) → Type 0
Leaves g old new P = g.tells → LeavesOnly g.moment g.left_since old new (P (g.held old))

-- the files of a disk are no archive, and no creation that was stopped
abbrev pub IsUnread : {D : Type 0} → DiskGhosts D → D → Type 0
IsUnread g old = Readable (contents_of (g.held old)) → ⊥
