-- What recovery leaves of what survives a crash.
use Rattle.std.specs.Prelude.{◌≡◌, ℕ, ◌≤◌, List, length, take}
use Rattle.std.specs.List.{AllByRecursion}
use Rattle.pcp_base.specs.declared.result.Item.{Item}
use Rattle.pcp_model.specs.Archive.{ArchiveReading, Reads, scan, records_in}
use Rattle.pcp_model.specs.Described.{Described}
use Rattle.pcp_model.specs.Disk.{Files}
use Rattle.pcp_model.specs.Recovered.{Recovers, recovered_reading}
use Rattle.pcp_model.specs.Sound.{IsSound}
use Rattle.logger_core.specs.Keeps.{Start, WasSound, WasDescribed}
use Rattle.logger_core.specs.Laws.{Survives}

-- Files that are read as the first of these items, at least so many, each with its metadata, and sound
pub record HoldsFirst (s : Start) (all : List Item) (acknowledged : ℕ) (left : Files) (r : ArchiveReading) : Type 0 where
  pub reads : Reads left r
  pub q : ℕ
  pub items : scan r ≡ take q all
  pub enough : acknowledged ≤ length (scan r)
  pub described : AllByRecursion (λ x. WasDescribed s x → Described (records_in r) x) (scan r)
  pub sound : WasSound s → IsSound left r

-- Recovery of what survives leaves such files.
abbrev pub SurvivorsAreRecovered : Type 0
SurvivorsAreRecovered = (s : Start) (all : List Item) (acknowledged : ℕ) (image left : Files) (r : ArchiveReading) → Survives s all acknowledged image → Reads image r → Recovers image r left
    → HoldsFirst s all acknowledged left (recovered_reading image r)
