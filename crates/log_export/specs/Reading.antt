-- What reading the source's volumes finds, and why the source isn't read, as a dump isn't.
use Rattle.std.specs.Prelude.{◌≡◌, ◌⊎◌, ℕ, List, length, Option, Some, None}
use Rattle.pcp_base.specs.declared.file.FileId.{FileId}
use Rattle.pcp_base.specs.declared.result.Item.{Item}
use Rattle.pcp_model.specs.Disk.{Files}
use Rattle.archive_loading.specs.LoadFaults.{NotLoaded}
use Rattle.archive_loading.specs.Loaded.{Loaded, IsOver}
use Rattle.archive_reader.specs.declared.fault.ReaderFault.{ReaderFault}
use Rattle.archive_reader.specs.declared.fault.ReaderFault.TheVariants.{Compressed, NotArchive, DiskFault, NoMemory}
use Rattle.archive_reader.specs.Walks.{IsEnd, Leads, StopsAt, volumes_from}
use Rattle.log_export.specs.declared.walking.Walk.{Walk}

-- the records from the first place on, up to the end, are those of so many items
pub record Walked (files : Files) (volumes : List (ℕ × ℕ)) (w : Walk) : Type 0 where
  pub items : List Item
  pub leads : Leads files volumes 132 items (volumes_from w.end.volume volumes) w.end.offset
  pub ends : IsEnd files (volumes_from w.end.volume volumes) w.end.offset
  pub counted : w.items ≡ length items

-- a record of a volume, the first such, is no item's
abbrev pub IsRecordFault : Files → Loaded → ReaderFault → Type 0
IsRecordFault files r (Compressed file) = ⊥
IsRecordFault files r (NotArchive file at) = (items : List Item) × StopsAt files r.volumes 132 items file at
IsRecordFault files r DiskFault = Unit {0}
IsRecordFault files r NoMemory = Unit {0}

-- This offset of this file fits no archive: apart from the records of volumes it is the first such; or, where that is as it should be, the first
-- record of a volume that is no item's begins there.
abbrev pub FitsNone : Files → FileId → ℕ → Type 0
FitsNone files file at = NotLoaded files file at ⊎ ((r : Loaded) × IsOver files r × (items : List Item) × StopsAt files r.volumes 132 items file at)

-- a file stands wrapped, the first one so; or none does, and an offset fits no archive
abbrev pub IsReadFault : Option FileId → Files → ReaderFault → Type 0
IsReadFault wrapped files (Compressed file) = wrapped ≡ Some file
IsReadFault wrapped files (NotArchive file at) = (wrapped ≡ None) × FitsNone files file at
IsReadFault wrapped files DiskFault = Unit {0}
IsReadFault wrapped files NoMemory = Unit {0}

-- the disk failed, or memory was refused
abbrev pub IsWant : ReaderFault → Type 0
IsWant (Compressed file) = ⊥
IsWant (NotArchive file at) = ⊥
IsWant DiskFault = Unit {0}
IsWant NoMemory = Unit {0}
