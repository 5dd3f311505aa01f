use Rattle.std.proofs.Common.{◌≡◌, ◌-◌, ◌≤◌}
use Rattle.pcp_base.specs.declared.file.FileId.TheVariants.{Meta}
use Rattle.pcp_model.specs.Disk.{contents_of}
use Rattle.archive_loading.specs.Looks.{Looks}
use Rattle.archive_loading.specs.Metadata.{MetaSoFar}
use Rattle.archive_loading.proofs.metadata.read_records.Given as goal

abbrev pub invariant-loop-at : goal.invariant-loop-at
invariant-loop-at g l = record {
  looks : Looks g.D.Disk l.initial.disk l.disk;
  quiet : g.D.Disk.faults l.disk ≡ g.D.Disk.faults l.initial.disk;
  low : 132 ≤ l.at;
  within : g.D.Disk.tells → l.at ≤ l.end;
  took : g.D.Disk.tells → g.D.Disk.taken l.disk ≤ g.D.Disk.taken l.initial.disk;
  so_far : g.D.Disk.tells → MetaSoFar (contents_of (g.D.Disk.held l.initial.disk) Meta) l.at l.meta l.last;
}

abbrev pub decreases-loop-at : goal.decreases-loop-at
decreases-loop-at g l = l.end - l.at
