-- The volumes so far stand.
use Rattle.std.proofs.Common.{◌≡◌, length}
use Rattle.pcp_model.specs.Disk.{Files, contents_of}
use Rattle.archive_loading.specs.Looks.{Looks}
use Rattle.log_export.specs.Laying.{AgreeBelow, BeginsOnly, IsHeld, laid_to}
use Rattle.log_export.proofs.laying.lay_below.Given as goal

abbrev pub invariant-loop-number : goal.invariant-loop-number
invariant-loop-number g l = record {
  room : length l.buffer ≡ length l.initial.buffer;
  looks : Looks g.A.Disk l.initial.source l.source;
  source_quiet : g.A.Disk.faults l.source ≡ g.A.Disk.faults l.initial.source;
  disk_quiet : g.D.Disk.faults l.disk ≡ g.D.Disk.faults l.initial.disk;
  goes : g.A.Disk.tells → g.D.Disk.tells → (out : Files) → AgreeBelow l.count (contents_of (g.A.Disk.held l.initial.source)) out → IsHeld (g.D.Disk.held l.initial.disk) (laid_to 0 out) → IsHeld (g.D.Disk.held l.disk) (laid_to l.number out) × BeginsOnly g.D.Disk out l.initial.disk l.disk;
}
