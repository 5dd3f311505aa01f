-- Why `load` is refused.
use Rattle.std.specs.Prelude.{◌≡◌, Option, Some, None}
use Rattle.pcp_base.specs.declared.file.FileId.{FileId}
use Rattle.pcp_model.specs.Disk.{Files}
use Rattle.archive_loading.specs.LoadFaults.{NotLoaded}
use Rattle.archive_reader.specs.declared.fault.ReaderFault.{ReaderFault}
use Rattle.archive_reader.specs.declared.fault.ReaderFault.TheVariants.{Compressed, NotArchive, DiskFault, NoMemory}

-- why files that stand under their own names aren't loaded
abbrev pub IsFilesFault : Files → ReaderFault → Type 0
IsFilesFault files (Compressed file) = ⊥
IsFilesFault files (NotArchive file offset) = NotLoaded files file offset
IsFilesFault files DiskFault = Unit {0}
IsFilesFault files NoMemory = Unit {0}

-- why `load` is refused
abbrev pub IsLoadFault : Option FileId → Files → ReaderFault → Type 0
IsLoadFault wrapped files (Compressed file) = wrapped ≡ Some file
IsLoadFault wrapped files (NotArchive file offset) = (wrapped ≡ None) × NotLoaded files file offset
IsLoadFault wrapped files DiskFault = Unit {0}
IsLoadFault wrapped files NoMemory = Unit {0}
