use Rattle.std.proofs.Common.{◌≡◌, ◌-◌, ◌≤◌}
use Rattle.pcp_base.specs.declared.file.FileId.TheVariants.{Volume}
use Rattle.pcp_model.specs.Disk.{contents_of}
use Rattle.archive_loading.specs.Looks.{Looks}
use Rattle.archive_recovery.proofs.OneVolume.{ItemsSoFar}
use Rattle.archive_recovery.proofs.counting.read_items.Given as goal

abbrev pub invariant-loop-at : goal.invariant-loop-at
invariant-loop-at g l = record {
  looks : Looks g.D.Disk l.initial.disk l.disk;
  quiet : g.D.Disk.faults l.disk ≡ g.D.Disk.faults l.initial.disk;
  low : 132 ≤ l.at;
  within : l.at ≤ l.end;
  so_far : g.D.Disk.tells → ItemsSoFar (contents_of (g.D.Disk.held l.initial.disk) (Volume l.number)) l.at l.initial.tally l.tally;
}

abbrev pub decreases-loop-at : goal.decreases-loop-at
decreases-loop-at g l = l.end - l.at
