-- What is read of a source of an extract (pmlogextract(1), LOGARCHIVE(5)).
use Rattle.std.specs.Prelude.{◌≡◌, List, None}
use Rattle.pcp_base.specs.declared.result.Item.{Item}
use Rattle.pcp_model.specs.Archive.{ArchiveReading, Reads, records_in, scan}
use Rattle.pcp_model.specs.Disk.{contents_of}
use Rattle.pcp_model.specs.Sound.{IsSound}
use Rattle.pcp_model.specs.declared.records.MetaRecord.{MetaRecord}
use Rattle.pcp_outside.specs.declared.disk.Disk.{Ghosts as DiskGhosts}
use Rattle.pcp_outside.specs.Causes.{Rose}
use Rattle.archive_reader.specs.declared.fault.ReaderFault.{ReaderFault}
use Rattle.archive_reader.specs.declared.fault.ReaderFault.TheVariants.{Compressed, NotArchive, DiskFault, NoMemory}
use Rattle.archive_check.specs.declared.fault.CheckFault.{CheckFault}
use Rattle.archive_check.specs.declared.fault.CheckFault.TheVariants.{Items, Boundary, Late, Reader}
use Rattle.archive_check.specs.Checks.{IsCheckFault}

-- the records of its metadata, and its items
pub record Source : Type 0 where
  pub records : List MetaRecord
  pub items : List Item

-- A disk holds a sound archive, which is read so; no file of it stands wrapped.
pub record IsSource {D : Type 0} (d : DiskGhosts D) (disk : D) (source : Source) : Type 0 where
  pub unwrapped : d.wrapped_file disk ≡ None
  pub reading : ArchiveReading
  pub reads : Reads (contents_of (d.held disk)) reading
  pub sound : IsSound (contents_of (d.held disk)) reading
  pub records_are : source.records ≡ records_in reading
  pub items_are : source.items ≡ scan reading

-- A fault of a disk that is read comes only where its count rose.
abbrev pub IsBlamed : {D : Type 0} → DiskGhosts D → D → D → ReaderFault → Type 0
IsBlamed d was is fault = fault ≡ DiskFault → Rose (d.faults was) (d.faults is)

-- a disk isn't passed as a sound archive, for this reason
pub record IsTurnedBack {D : Type 0} (d : DiskGhosts D) (was is : D) (fault : CheckFault) : Type 0 where
  pub why : d.tells → IsCheckFault (d.wrapped_file was) (contents_of (d.held was)) fault
  pub blamed : fault ≡ Reader DiskFault → Rose (d.faults was) (d.faults is)

-- what may break off the reading of a sound archive
abbrev pub IsLack : ReaderFault → Type 0
IsLack (Compressed file) = ⊥
IsLack (NotArchive file offset) = ⊥
IsLack DiskFault = Unit {0}
IsLack NoMemory = Unit {0}

-- the reading of a disk that holds one broke off
pub record IsBroken {D : Type 0} (d : DiskGhosts D) (was is : D) (fault : ReaderFault) : Type 0 where
  pub why : d.tells → IsLack fault
  pub blamed : IsBlamed d was is fault

abbrev pub IsBrokenOff : {D : Type 0} → DiskGhosts D → D → D → CheckFault → Type 0
IsBrokenOff d was is (Items first second) = ⊥
IsBrokenOff d was is (Boundary at file below above) = ⊥
IsBrokenOff d was is (Late at stamp) = ⊥
IsBrokenOff d was is (Reader fault) = IsBroken d was is fault
