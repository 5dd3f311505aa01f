-- What `item_at` answers at a place.
use Rattle.std.specs.Prelude.{ℕ, List, Option, Some, None}
use Rattle.pcp_base.specs.declared.result.Item.{Item}
use Rattle.pcp_model.specs.Disk.{Files}
use Rattle.archive_reader.specs.declared.fault.ReaderFault.{ReaderFault}
use Rattle.archive_reader.specs.declared.fault.ReaderFault.TheVariants.{Compressed, NotArchive, DiskFault, NoMemory}
use Rattle.archive_reader.specs.declared.places.Place.{Place}
use Rattle.archive_reader.specs.Walks.{volumes_from, StepsOver, IsEnd, IsBad}

-- the next record's item and the place behind it, or nothing where no record follows
abbrev pub IsNext : Files → List (ℕ × ℕ) → Place → Option (Item × Place) → Type 0
IsNext files volumes p None = IsEnd files (volumes_from p.volume volumes) p.offset
IsNext files volumes p (Some next) = StepsOver files (volumes_from p.volume volumes) p.offset next.0 (volumes_from next.1.volume volumes) next.1.offset

abbrev pub IsNextFault : Files → List (ℕ × ℕ) → Place → ReaderFault → Type 0
IsNextFault files volumes p (Compressed file) = ⊥
IsNextFault files volumes p (NotArchive file offset) = IsBad files (volumes_from p.volume volumes) p.offset file offset
IsNextFault files volumes p DiskFault = Unit {0}
IsNextFault files volumes p NoMemory = Unit {0}
