-- So far these items were read, and the files are as they were.
use Rattle.std.proofs.Common.{◌≡◌}
use Rattle.pcp_model.specs.Disk.{contents_of}
use Rattle.archive_loading.specs.Looks.{Looks}
use Rattle.log_export.proofs.Read.{IsSoFar}
use Rattle.log_export.proofs.walking.read_all.Given as goal

abbrev pub invariant-loop-items : goal.invariant-loop-items
invariant-loop-items g l = record {
  looks : Looks g.D.Disk l.fn.disk l.disk;
  quiet : g.D.Disk.faults l.disk ≡ g.D.Disk.faults l.fn.disk;
  so_far : g.D.Disk.tells → IsSoFar (contents_of (g.D.Disk.held l.fn.disk)) l.reader.volumes l.end l.items;
}
