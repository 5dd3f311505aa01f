-- The first items are logged, and what comes of the others is what is left.
use Rattle.std.proofs.Common.{◌≡◌}
use Rattle.archive_loading.specs.Looks.{Looks}
use Rattle.logging_session.specs.Keeping.{IsWorking}
use Rattle.log_extract.specs.Cursors.{IsReady}
use Rattle.log_extract.proofs.Items.{SoFar}
use Rattle.log_extract.proofs.merging.merge_all.Given as goal

abbrev pub invariant-loop : goal.invariant-loop
invariant-loop g l = record {
  working : IsWorking l.run;
  first_ready : IsReady g.A.Disk l.first_disk l.first;
  second_ready : IsReady g.B.Disk l.second_disk l.second;
  first_looks : Looks g.A.Disk l.fn.first_disk l.first_disk;
  second_looks : Looks g.B.Disk l.fn.second_disk l.second_disk;
  first_quiet : g.A.Disk.faults l.first_disk ≡ g.A.Disk.faults l.fn.first_disk;
  second_quiet : g.B.Disk.faults l.second_disk ≡ g.B.Disk.faults l.fn.second_disk;
  far : SoFar g.A.Disk g.B.Disk g.D.Disk l.fn.first_disk l.fn.second_disk l.fn.first l.fn.second l.fn.run l.fn.disk l.first_disk l.second_disk l.first l.second l.run l.disk;
}
