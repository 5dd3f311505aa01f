-- The jobs are the next volumes, however far they are counted, and so are those behind them.
use Rattle.std.proofs.Common.{◌≡◌, ◌+◌, ◌-◌, length, min, vec_len}
use Rattle.pcp_model.specs.Disk.{contents_of}
use Rattle.archive_loading.specs.Looks.{Looks}
use Rattle.log_summary.specs.Jobs.{AreNext}
use Rattle.log_summary.proofs.jobs.count_next.Given as goal

abbrev pub invariant-loop : goal.invariant-loop
invariant-loop g l = record {
  looks : Looks g.D.Disk l.initial.disk l.disk;
  quiet : g.D.Disk.faults l.disk ≡ g.D.Disk.faults l.initial.disk;
  long : vec_len l.jobs ≡ vec_len l.fn.jobs;
  many : vec_len l.next ≡ min l.workers (length l.volumes - (l.index + vec_len l.fn.jobs));
  jobs : g.D.Disk.tells → AreNext (contents_of (g.D.Disk.held l.initial.disk)) l.meta l.from l.to l.volumes l.index l.jobs.items;
  next : g.D.Disk.tells → AreNext (contents_of (g.D.Disk.held l.initial.disk)) l.meta l.from l.to l.volumes (l.index + vec_len l.fn.jobs) l.next.items;
}
