-- What `check` answers.
use Rattle.std.specs.Prelude.{◌≡◌, ◌⊎◌, ℕ, length, Option, Some, None}
use Rattle.pcp_base.specs.declared.file.FileId.{FileId}
use Rattle.pcp_model.specs.Archive.{ArchiveReading, Reads, scan}
use Rattle.pcp_model.specs.Disk.{Files}
use Rattle.pcp_model.specs.Sound.{IsSound}
use Rattle.pcp_outside.specs.Causes.{shown_count}
use Rattle.archive_loading.specs.LoadFaults.{NotLoaded}
use Rattle.archive_loading.specs.Loaded.{Loaded, IsOver}
use Rattle.archive_reader.specs.declared.fault.ReaderFault.{ReaderFault}
use Rattle.archive_reader.specs.declared.fault.ReaderFault.TheVariants.{Compressed, NotArchive, DiskFault, NoMemory}
use Rattle.archive_reader.specs.Values.{IsWholeFault}
use Rattle.archive_check.specs.Breaches.{IsBreach}
use Rattle.archive_check.specs.declared.fault.CheckFault.{CheckFault}
use Rattle.archive_check.specs.declared.fault.CheckFault.TheVariants.{Items, Boundary, Late, Reader}

-- the files are readable and sound, with so many items
pub record HoldsSound (files : Files) (count : ℕ) : Type 0 where
  pub reading : ArchiveReading
  pub reads : Reads files reading
  pub sound : IsSound files reading
  pub count_is : count ≡ shown_count (length (scan reading))

-- the files are readable, and this is where they are not sound
pub record IsUnsound (wrapped : Option FileId) (files : Files) (fault : CheckFault) : Type 0 where
  pub unwrapped : wrapped ≡ None
  pub reading : ArchiveReading
  pub reads : Reads files reading
  pub breach : IsBreach files reading fault

-- Files that aren't readable: a file stands wrapped; or this offset fits no archive, apart from the records of volumes; or else it is that
-- of the first record of volumes that is no item's.
abbrev pub IsUnreadable : Option FileId → Files → ReaderFault → Type 0
IsUnreadable wrapped files (Compressed file) = wrapped ≡ Some file
IsUnreadable wrapped files (NotArchive file at) = (wrapped ≡ None) × (NotLoaded files file at ⊎ ((r : Loaded) × IsOver files r × IsWholeFault files r.volumes (NotArchive file at)))
IsUnreadable wrapped files DiskFault = Unit {0}
IsUnreadable wrapped files NoMemory = Unit {0}

-- why `check` is refused
abbrev pub IsCheckFault : Option FileId → Files → CheckFault → Type 0
IsCheckFault wrapped files (Items first second) = IsUnsound wrapped files (Items first second)
IsCheckFault wrapped files (Boundary at file below above) = IsUnsound wrapped files (Boundary at file below above)
IsCheckFault wrapped files (Late at stamp) = IsUnsound wrapped files (Late at stamp)
IsCheckFault wrapped files (Reader fault) = IsUnreadable wrapped files fault
