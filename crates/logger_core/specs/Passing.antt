-- How a disk went by while runs were written, up to where it failed.
use Rattle.std.specs.Prelude.{◌≡◌, ℕ, ◌≤◌, List, take, drop}
use Rattle.pcp_base.specs.declared.file.FileId.{FileId}
use Rattle.pcp_model.specs.Archive.{IsArchive}
use Rattle.pcp_model.specs.Disk.{bytes_of}
use Rattle.pcp_model.specs.Laws.{EndsWhole}
use Rattle.pcp_outside.specs.Devices.{LeavesOnly}
use Rattle.pcp_outside.specs.declared.disk.Disk.{Ghosts as DiskGhosts}
use Rattle.logger_core.specs.Grouping.{Told, LogsAll, samples_of}
use Rattle.logger_core.specs.Holding.{HeldBack}
use Rattle.logger_core.specs.Meant.{Meant}
use Rattle.logger_core.specs.Runs.{SurvivesWith}

-- At some moment the disk held exactly what the first so many of these results lead to. A crash before that moment leaves none behind
-- them, and one from that moment on all that is then acknowledged.
pub record HasPassedFirst {D : Type 0} (d : DiskGhosts D) (m : Meant) (number limit : ℕ) (group : List Told) (k : ℕ) (old new : D) : Type 0 where
  pub at : D
  pub n : Meant
  pub next : ℕ
  pub all : LogsAll m number limit (take k group) n next
  pub started : n.start ≡ m.start
  pub still : m.acknowledged ≤ n.acknowledged
  pub is : IsArchive n.files n.contents
  pub last : EndsWhole n.files n.contents next
  pub stands : (file : FileId) → bytes_of (d.held at file) ≡ n.files file
  pub before : LeavesOnly d.moment d.left_since old at (SurvivesWith m (samples_of (take k group)))
  pub since : LeavesOnly d.moment d.left_since at new (SurvivesWith n (samples_of (drop k group)))

-- the same of what a logger held
abbrev pub HasPassedRuns : {D : Type 0} → DiskGhosts D → Meant → HeldBack → List Told → ℕ → D → D → Type 0
HasPassedRuns d m b pending k old new = HasPassedFirst d m b.kept.ends.volume b.kept.limit pending k old new
