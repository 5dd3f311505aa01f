-- The clusters of the regions so far.
use Rattle.std.specs.Prelude.{◌≡◌, map, take}
use Rattle.run_passes.specs.Crews.{cluster_of}
use Rattle.run_passes.proofs.positions.clusters_of.Given as goal

abbrev pub invariant-loop-row : goal.invariant-loop-row
invariant-loop-row l = l.clusters.items ≡ map (cluster_of l.script) (take l.row-index l.script.regions)
