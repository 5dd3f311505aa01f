-- The table is that of the volumes so far, and the jobs are the next ones.
use Rattle.std.proofs.Common.{◌≡◌, ◌≤◌, ◌-◌, length, drop, min, vec_len}
use Rattle.pcp_model.specs.Disk.{contents_of}
use Rattle.archive_loading.specs.Looks.{Looks}
use Rattle.log_summary.specs.Jobs.{AreNext}
use Rattle.log_summary.specs.Summaries.{IsSoFar}
use Rattle.log_summary.proofs.summing.sum_volumes.Given as goal

abbrev pub invariant-loop-index : goal.invariant-loop-index
invariant-loop-index g l = record {
  within : l.index ≤ length l.volumes;
  looks : Looks g.D.Disk l.initial.disk l.disk;
  quiet : g.D.Disk.faults l.disk ≡ g.D.Disk.faults l.initial.disk;
  many : vec_len l.jobs ≡ min l.workers (length l.volumes - l.index);
  next : g.D.Disk.tells → AreNext (contents_of (g.D.Disk.held l.initial.disk)) l.meta l.from l.to l.volumes l.index l.jobs.items;
  so_far : g.D.Disk.tells → IsSoFar (contents_of (g.D.Disk.held l.initial.disk)) l.volumes l.meta l.from l.to (drop l.index l.volumes) l.total;
}

abbrev pub decreases-loop-index : goal.decreases-loop-index
decreases-loop-index g l = length l.volumes - l.index
