use Rattle.std.proofs.Common.{◌≡◌, ◌≤◌, length}
use Rattle.pcp_model.specs.Disk.{contents_of}
use Rattle.archive_loading.specs.Looks.{Looks}
use Rattle.archive_reader.proofs.Spanned.{SoFar, Passed}
use Rattle.archive_reader.proofs.whole.read_each.Given as goal

abbrev pub invariant-loop : goal.invariant-loop
invariant-loop g l = record {
  within : l.index ≤ length l.volumes;
  looks : Looks g.D.Disk l.initial.disk l.disk;
  quiet : g.D.Disk.faults l.disk ≡ g.D.Disk.faults l.initial.disk;
  so_far : g.D.Disk.tells → SoFar (contents_of (g.D.Disk.held l.initial.disk)) l.volumes 0 132 Passed l.index l.at (g.D.Disk.taken l.initial.disk) (g.D.Disk.taken l.disk);
}
