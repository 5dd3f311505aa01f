use Rattle.std.proofs.Common.{◌≡◌, map, take}
use Rattle.run_passes.specs.Crews.{cluster_of}
use Rattle.run_passes.proofs.beginning.clusters_of.Given as goal

abbrev pub invariant-loop-row : goal.invariant-loop-row
invariant-loop-row l = l.clusters.items ≡ map (cluster_of l.script) (take l.row-index l.script.regions)
