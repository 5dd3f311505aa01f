-- How bytes of one disk come to another, and why they don't.
use Rattle.std.specs.Prelude.{ℕ, ◌-◌, List, take, drop}
use Rattle.pcp_base.specs.declared.file.FileId.{FileId}
use Rattle.pcp_model.specs.Disk.{CrashImage}
use Rattle.pcp_outside.specs.Causes.{Rose}
use Rattle.pcp_outside.specs.Devices.{LeavesOnly, holdings_after_append}
use Rattle.pcp_outside.specs.declared.disk.Disk.{Ghosts as DiskGhosts}
use Rattle.archive_reader.specs.declared.fault.ReaderFault.TheVariants as reads
use Rattle.log_export.specs.declared.fault.ExportFault.{ExportFault}
use Rattle.log_export.specs.declared.fault.ExportFault.TheVariants.{DiskFault, Source}

-- the bytes from one offset to another
abbrev pub piece_of : ℕ → ℕ → List ℕ → List ℕ
piece_of from to bytes = take (to - from) (drop from bytes)

-- a crash at any moment of a call leaves a front of these bytes behind what was sure of a file, and the other files alone
abbrev pub AppendsOnly : {D : Type 0} → DiskGhosts D → FileId → List ℕ → D → D → Type 0
AppendsOnly g file bytes old new = LeavesOnly g.moment g.left_since old new (CrashImage (holdings_after_append file bytes (g.held old)))

-- the source's disk failed, or the one that is written
abbrev pub IsBlamed : {A D : Type 0} → DiskGhosts A → A → A → DiskGhosts D → D → D → ExportFault → Type 0
IsBlamed s source_was source_is d disk_was disk_is (Source reads.DiskFault) = Rose (s.faults source_was) (s.faults source_is)
IsBlamed s source_was source_is d disk_was disk_is DiskFault = Rose (d.faults disk_was) (d.faults disk_is)
IsBlamed s source_was source_is d disk_was disk_is fault = ⊥
