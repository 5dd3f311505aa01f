use Rattle.std.specs.Prelude.{◌≡◌}
use Rattle.pcp_model.specs.Disk.{contents_of}
use Rattle.archive_loading.specs.Looks.{Looks}
use Rattle.archive_recovery.specs.Volumes.{EarlierStand}
use Rattle.archive_recovery.proofs.reading.read_earlier.Given as goal

abbrev pub invariant-loop-number : goal.invariant-loop-number
invariant-loop-number g l = record {
  looks : Looks g.D.Disk l.initial.disk l.disk;
  quiet : g.D.Disk.faults l.disk ≡ g.D.Disk.faults l.initial.disk;
  so_far : g.D.Disk.tells → EarlierStand (contents_of (g.D.Disk.held l.initial.disk)) l.label l.number l.initial.tally l.tally l.top;
}
