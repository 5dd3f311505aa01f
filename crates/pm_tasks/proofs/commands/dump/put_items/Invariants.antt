-- The text so far is that of the items that were read, a front of it is sent, and the files and the printer's records are as they were.
use Rattle.std.proofs.Common.{◌≡◌}
use Rattle.pcp_model.specs.Disk.{contents_of}
use Rattle.archive_loading.specs.Looks.{Looks}
use Rattle.pcp_outside.specs.Sides.{sink_side}
use Rattle.pm_tasks.proofs.Dumped.{Going}
use Rattle.pm_tasks.proofs.commands.dump.put_items.Given as goal

abbrev pub invariant-loop : goal.invariant-loop
invariant-loop g l = record {
  looks : Looks g.D.Disk l.initial.disk l.disk;
  quiet : g.D.Disk.faults l.disk ≡ g.D.Disk.faults l.initial.disk;
  lines : l.lines ≡ l.reader.records;
  going : Going g.D.Disk.tells (contents_of (g.D.Disk.held l.initial.disk)) l.reader l.place l.initial.page.items (sink_side g.O.Sink l.initial.out l.out) l.failed l.page.items;
}
