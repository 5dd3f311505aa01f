use Rattle.pcp_model.specs.Disk.{contents_of}
use Rattle.archive_loading.specs.Looks.{Looks}
use Rattle.std.specs.Prelude.{◌≡◌, ◌+◌, ◌≤◌}
use Rattle.archive_loading.specs.Loaded.{IsReachable}
use Rattle.archive_loading.specs.Takes.{label_bytes}
use Rattle.archive_loading.proofs.Volumes.{SoFar, RiseTo}
use Rattle.archive_loading.proofs.loading.load_heads.Given as goal

abbrev pub invariant-loop-number : goal.invariant-loop-number
invariant-loop-number g l = record {
  looks : Looks g.D.Disk l.initial.disk l.disk;
  quiet : g.D.Disk.faults l.disk ≡ g.D.Disk.faults l.initial.disk;
  so_far : g.D.Disk.tells → SoFar (contents_of (g.D.Disk.held l.initial.disk)) l.label l.count l.number l.volumes;
  reach : IsReachable l.volumes;
  rises : RiseTo l.number l.volumes;
  took : g.D.Disk.tells → g.D.Disk.taken l.disk ≤ g.D.Disk.taken l.initial.disk + label_bytes (contents_of (g.D.Disk.held l.initial.disk)) l.number;
}
