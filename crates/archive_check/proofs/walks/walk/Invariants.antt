use Rattle.std.proofs.Common.{◌≡◌}
use Rattle.pcp_model.specs.Disk.{contents_of}
use Rattle.archive_loading.specs.Looks.{Looks}
use Rattle.archive_check.specs.Marks.{mark_at}
use Rattle.archive_check.proofs.Walking.{WalkSoFar}
use Rattle.archive_check.proofs.walks.walk.Given as goal

abbrev pub invariant-loop : goal.invariant-loop
invariant-loop g l = record {
  looks : Looks g.D.Disk l.initial.disk l.disk;
  quiet : g.D.Disk.faults l.disk ≡ g.D.Disk.faults l.initial.disk;
  so_far : g.D.Disk.tells → WalkSoFar l.file (contents_of (g.D.Disk.held l.initial.disk) l.file) l.initial.tally l.at (mark_at l.initial.marks) (mark_at l.marks) l.tally;
}
