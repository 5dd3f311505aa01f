-- How a run begins: its files are recovered, or it ends there.
use Rattle.std.specs.Prelude.{◌≡◌, [], None}
use Rattle.pcp_base.specs.declared.file.FileId.{FileId}
use Rattle.pcp_model.specs.Archive.{ArchiveReading, Reads}
use Rattle.pcp_model.specs.Disk.{Files, contents_of}
use Rattle.pcp_model.specs.Recovered.{Recovers}
use Rattle.pcp_outside.specs.Devices.{LeavesOnly}
use Rattle.pcp_outside.specs.declared.disk.Disk.{Ghosts as DiskGhosts}
use Rattle.archive_recovery.specs.declared.outcome.Archive.{Archive}
use Rattle.archive_recovery.specs.declared.outcome.RecoverFault.{RecoverFault}
use Rattle.archive_recovery.specs.declared.outcome.RecoverFault.TheVariants as recovery
use Rattle.archive_recovery.specs.Halfway.{MayBeHalfway}
use Rattle.archive_recovery.specs.RecoverFaults.{IsRecoverFault}
use Rattle.archive_recovery.specs.Told.{WasRecovered}
use Rattle.logging_run.specs.declared.fault.RunFault.{RunFault}
use Rattle.logging_run.specs.declared.fault.RunFault.TheVariants as faults

-- the files at the start, and what recovery leaves of them
pub record IsRecovered (start left : Files) : Type 0 where
  pub reading : ArchiveReading
  pub was : Reads start reading
  pub recovered : Recovers start reading left

module _ {D : Type 0} (d : DiskGhosts D) (old : D) where
  -- Recovery answered at that moment: no file stood wrapped, and the files were what it leaves of those at the start, each byte sure. A crash
  -- before, over a settled disk, leaves files on which it is on its way.
  pub record HasRecovered (middle : D) : Type 0 where
    pub archive : Archive
    pub was : WasRecovered (contents_of (d.held old)) (contents_of (d.held middle)) archive
    pub unwrapped : d.wrapped_file old ≡ None
    pub sure : (file : FileId) → (d.held middle file).rest ≡ []
    pub half : LeavesOnly d.moment d.left_since old middle (MayBeHalfway (d.held old))

  -- It didn't answer: the files were turned away, the disk failed on its way, or memory was refused before or in it.
  abbrev pub IsUnrecovered : RunFault → D → Type 0
  IsUnrecovered (faults.NotArchive file at) new = IsRecoverFault (d.wrapped_file old) (contents_of (d.held old)) (recovery.NotArchive file at) × (d.held new ≡ d.held old)
  IsUnrecovered (faults.Compressed file) new = IsRecoverFault (d.wrapped_file old) (contents_of (d.held old)) (recovery.Compressed file) × (d.held new ≡ d.held old)
  IsUnrecovered faults.DiskFault new = LeavesOnly d.moment d.left_since old new (MayBeHalfway (d.held old))
  IsUnrecovered faults.NoMemory new = d.held new ≡ d.held old
  IsUnrecovered fault new = ⊥

-- why a run is refused whose files aren't recovered
abbrev pub fault_of : RecoverFault → RunFault
fault_of (recovery.Compressed file) = faults.Compressed file
fault_of (recovery.NotArchive file at) = faults.NotArchive file at
fault_of recovery.DiskFault = faults.DiskFault
fault_of recovery.NoMemory = faults.NoMemory

-- a refusal of recovery
abbrev pub IsOfRecovery : RunFault → Type 0
IsOfRecovery fault = (why : RecoverFault) × (fault ≡ fault_of why)
