-- What is left is to be read, and the pieces so far stand in the files.
use Rattle.std.proofs.Common.{◌≡◌, drop}
use Rattle.std.specs.List.{AllByRecursion}
use Rattle.pcp_model.specs.Disk.{contents_of}
use Rattle.archive_loading.specs.Looks.{Looks}
use Rattle.log_summary.specs.Jobs.{IsWithin, IsPiece}
use Rattle.log_summary.proofs.piece.read_pieces.Given as goal

abbrev pub invariant-loop-want : goal.invariant-loop-want
invariant-loop-want g l = record {
  looks : Looks g.D.Disk l.initial.disk l.disk;
  quiet : g.D.Disk.faults l.disk ≡ g.D.Disk.faults l.initial.disk;
  left : g.D.Disk.tells → AllByRecursion (IsWithin (contents_of (g.D.Disk.held l.initial.disk))) (drop l.want-index l.wants);
  pieces : g.D.Disk.tells → AllByRecursion (IsPiece (contents_of (g.D.Disk.held l.initial.disk))) l.pieces.items;
}
