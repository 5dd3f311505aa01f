use Rattle.std.proofs.Common.{◌≡◌, drop}
use Rattle.pcp_model.specs.Disk.{contents_of}
use Rattle.archive_loading.specs.Looks.{Looks}
use Rattle.archive_reader.proofs.Valued.{Passing}
use Rattle.archive_reader.proofs.values.hit_in.Given as goal

abbrev pub invariant-loop : goal.invariant-loop
invariant-loop g l = record {
  looks : Looks g.D.Disk l.initial.disk l.disk;
  quiet : g.D.Disk.faults l.disk ≡ g.D.Disk.faults l.initial.disk;
  so_far : g.D.Disk.tells → Passing (contents_of (g.D.Disk.held l.initial.disk)) (drop l.index l.volumes) l.pmid l.t l.found l.at;
}
