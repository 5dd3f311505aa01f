-- The items so far were read and watched, a front of what was told is sent, and the files are as they were.
use Rattle.std.proofs.Common.{◌≡◌}
use Rattle.pcp_model.specs.Disk.{contents_of}
use Rattle.archive_loading.specs.Looks.{Looks}
use Rattle.pcp_outside.specs.Sides.{sink_side}
use Rattle.rule_watch.specs.Shown.{rules_of}
use Rattle.pm_tasks.proofs.Watched.{Going}
use Rattle.pm_tasks.proofs.commands.watch.watch_all.Given as goal

abbrev pub invariant-loop : goal.invariant-loop
invariant-loop g l = record {
  looks : Looks g.D.Disk l.initial.disk l.disk;
  quiet : g.D.Disk.faults l.disk ≡ g.D.Disk.faults l.initial.disk;
  same : l.reader ≡ l.initial.reader;
  going : Going g.D.Disk.tells (contents_of (g.D.Disk.held l.initial.disk)) l.initial.reader (rules_of l.initial.watch) l.from l.to l.place l.watch (sink_side g.O.Sink l.initial.out l.out) l.failed l.told;
}
