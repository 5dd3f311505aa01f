use Rattle.std.proofs.Common.{◌≡◌, ◌≤◌, length, drop}
use Rattle.pcp_model.specs.Disk.{contents_of}
use Rattle.archive_loading.specs.Looks.{Looks}
use Rattle.archive_reader.proofs.Valued.{ShowsNone}
use Rattle.archive_reader.proofs.values.last_hit.Given as goal

abbrev pub invariant-loop-left : goal.invariant-loop-left
invariant-loop-left g l = record {
  within : l.left ≤ length l.volumes;
  looks : Looks g.D.Disk l.initial.disk l.disk;
  quiet : g.D.Disk.faults l.disk ≡ g.D.Disk.faults l.initial.disk;
  above : g.D.Disk.tells → ShowsNone (contents_of (g.D.Disk.held l.initial.disk)) (drop l.left l.volumes) l.pmid l.t;
}

abbrev pub decreases-loop-left : goal.decreases-loop-left
decreases-loop-left g l = l.left
