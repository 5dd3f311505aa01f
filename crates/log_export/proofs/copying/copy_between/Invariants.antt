-- The bytes so far stand behind what was there.
use Rattle.std.proofs.Common.{◌≡◌, ◌-◌, ◌≤◌, length, take}
use Rattle.pcp_model.specs.Disk.{contents_of}
use Rattle.pcp_outside.specs.Devices.{Becomes, held_after_append}
use Rattle.archive_loading.specs.Looks.{Looks}
use Rattle.log_export.specs.Copying.{AppendsOnly, piece_of}
use Rattle.log_export.proofs.copying.copy_between.Given as goal

abbrev pub invariant-loop-at : goal.invariant-loop-at
invariant-loop-at g l = record {
  low : l.from ≤ l.at;
  high : l.at ≤ l.to;
  room : length l.buffer ≡ length l.initial.buffer;
  looks : Looks g.A.Disk l.initial.source l.source;
  source_quiet : g.A.Disk.faults l.source ≡ g.A.Disk.faults l.initial.source;
  disk_quiet : g.D.Disk.faults l.disk ≡ g.D.Disk.faults l.initial.disk;
  copied : g.A.Disk.tells → g.D.Disk.tells → Becomes l.file (held_after_append (g.D.Disk.held l.initial.disk l.file) (take (l.at - l.from) (piece_of l.from l.to (contents_of (g.A.Disk.held l.initial.source) l.file)))) (g.D.Disk.held l.initial.disk) (g.D.Disk.held l.disk);
  moments : g.A.Disk.tells → g.D.Disk.tells → AppendsOnly g.D.Disk l.file (piece_of l.from l.to (contents_of (g.A.Disk.held l.initial.source) l.file)) l.initial.disk l.disk;
}

abbrev pub decreases-loop-at : goal.decreases-loop-at
decreases-loop-at g l = l.to - l.at
