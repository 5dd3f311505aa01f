-- The export of a whole archive: what comes to stand, what a crash leaves meanwhile, and why it isn't done.
use Rattle.std.specs.Prelude.{◌≡◌, ◌⊎◌, ℕ, [], length, None, Result, Ok, Err}
use Rattle.pcp_base.specs.declared.file.FileId.{FileId}
use Rattle.pcp_model.specs.Archive.{ArchiveContents, ArchiveReading, IsArchive, Reads, scan}
use Rattle.pcp_model.specs.Disk.{Files, CrashImage, contents_of}
use Rattle.pcp_outside.specs.Causes.{Rose}
use Rattle.pcp_outside.specs.declared.disk.Disk.{Ghosts as DiskGhosts}
use Rattle.pcp_outside.specs.Devices.{LeavesOnly}
use Rattle.archive_loading.specs.Looks.{Looks}
use Rattle.archive_reader.specs.declared.fault.ReaderFault.TheVariants as reads
use Rattle.log_export.specs.declared.fault.ExportFault.{ExportFault}
use Rattle.log_export.specs.declared.fault.ExportFault.TheVariants.{DiskFault, Source, Stands}
use Rattle.log_export.specs.Exported.{ExportsAs, IsExported}
use Rattle.log_export.specs.Laying.{IsBegun}
use Rattle.log_export.specs.Reading.{IsReadFault}
use Rattle.log_export.specs.Standing.{IsFree, IsStanding}

-- the source before and after, and the disk that is written
pub record ExportSide (A D : Type 0) : Type 1 where
  pub source : DiskGhosts A
  pub source_was : A
  pub source_is : A
  pub disk : DiskGhosts D
  pub disk_was : D
  pub disk_is : D

abbrev pub export_side : {A D : Type 0} → DiskGhosts A → A → A → DiskGhosts D → D → D → ExportSide A D
export_side source source_was source_is disk disk_was disk_is =
    record { source = source; source_was = source_was; source_is = source_is; disk = disk; disk_was = disk_was; disk_is = disk_is }

module _ {A D : Type 0} (p : ExportSide A D) where
  -- the files of the source, and those that stand in the end
  abbrev pub source_files : Files
  source_files = contents_of (p.source.held p.source_was)

  abbrev pub files_were : Files
  files_were = contents_of (p.disk.held p.disk_was)

  abbrev pub files_are : Files
  files_are = contents_of (p.disk.held p.disk_is)

  -- nothing stood where the archive comes to stand
  abbrev pub WasFree : Type 0
  WasFree = IsFree files_were (p.disk.wrapped_file p.disk_was)

  -- The source is read as an archive of so many items, or as none, of which no file stands wrapped; its export is what stands, and all of it is sure.
  pub record HasExported (count : ℕ) : Type 0 where
    pub unwrapped : p.source.wrapped_file p.source_was ≡ None
    pub reading : ArchiveReading
    pub reads : Reads source_files reading
    pub counted : count ≡ length (scan reading)
    pub exported : ExportsAs source_files reading files_are
    pub sure : (file : FileId) → (p.disk.held p.disk_is file).rest ≡ []

  -- no call of a disk failed
  pub record IsQuiet : Type 0 where
    pub source : p.source.faults p.source_is ≡ p.source.faults p.source_was
    pub disk : p.disk.faults p.disk_is ≡ p.disk.faults p.disk_was

  -- the disk holds what it held, at every moment
  abbrev pub LeavesDisk : Type 0
  LeavesDisk = Looks p.disk p.disk_was p.disk_is

  -- and no call of it failed
  abbrev pub LeavesQuiet : Type 0
  LeavesQuiet = LeavesDisk × (p.disk.faults p.disk_is ≡ p.disk.faults p.disk_was)

  -- It is done where nothing stood. Or something stands, and the source isn't touched. Or nothing stood, and the source is turned away or memory is
  -- refused, and nothing is written; or a disk failed.
  abbrev pub Exports : Result ℕ ExportFault → Type 0
  Exports (Ok count) = IsQuiet × (p.disk.tells → WasFree) × (p.source.tells → p.disk.tells → HasExported count)
  Exports (Err (Stands file)) = LeavesQuiet × (p.source_is ≡ p.source_was) × (p.disk.tells → IsStanding files_were (p.disk.wrapped_file p.disk_was) file)
  Exports (Err (Source reads.DiskFault)) = (p.disk.tells → WasFree) × Rose (p.source.faults p.source_was) (p.source.faults p.source_is)
  Exports (Err (Source reads.NoMemory)) = LeavesQuiet × (p.disk.tells → WasFree)
  Exports (Err (Source fault)) = LeavesQuiet × (p.disk.tells → WasFree) × (p.source.tells → IsReadFault (p.source.wrapped_file p.source_was) source_files fault)
  Exports (Err DiskFault) = Rose (p.disk.faults p.disk_was) (p.disk.faults p.disk_is)

  -- over nothing: of the export a beginning of each file, and no byte of Meta before the others are whole
  pub record MayBeBegun (crash : Files) : Type 0 where
    pub free : WasFree
    pub contents : ArchiveContents
    pub is : IsArchive source_files contents
    pub out : Files
    pub exported : IsExported source_files contents out
    pub begun : IsBegun out crash

  -- what a crash at any moment may leave: what it might have left at the start, or such a beginning
  abbrev pub MayBeLeft : Files → Type 0
  MayBeLeft crash = CrashImage (p.disk.held p.disk_was) crash ⊎ MayBeBegun crash

  abbrev pub MayLeave : Type 0
  MayLeave = p.source.tells → p.disk.tells → LeavesOnly p.disk.moment p.disk.left_since p.disk_was p.disk_is MayBeLeft
