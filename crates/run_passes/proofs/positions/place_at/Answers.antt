use Rattle.std.proofs.Common.{◌==◌, ℕ, List, get_or, sym, ap, ◌∙◌, refl}
use Rattle.std.proofs.lemmas.Iterator.Adapters.{position_from-zero}
use Rattle.run_script.specs.declared.script.RegionRow.{RegionRow}
use Rattle.run_passes.proofs.Placing.{cluster_at}
use Rattle.run_passes.proofs.Turning.{was_there}
use Rattle.run_passes.proofs.WriterClusters.{cluster_there, served_at}
use Rattle.run_passes.proofs.positions.place_at.Goals as goal

pub unreachable-requires : goal.unreachable-requires
unreachable-requires c =
    let row_is = was_there c.args.script.now.regions c.args.region c.index-as_slice-region.result c.index-as_slice-region.result c.requires.there (c.index-as_slice-region.is ∙ ap (λ (l : List RegionRow). get_or l c.args.region c.index-as_slice-region.result) c.as_slice.ensures) refl in
    let of_row = cluster_at c.args.script.now c.args.region c.index-as_slice-region.result c.index-as_slice-row.result c.cluster-cluster.result c.requires.rules row_is (c.index-as_slice-row.is ∙ ap (λ (l : List (List ℕ × List ℕ)). get_or l c.index-as_slice-region.result.image c.index-as_slice-row.result) c.as_slice-2.ensures) c.cluster-cluster.ensures.value in
    cluster_there c.args.script.now c.requires.serves.0 c.args.server.now c.args.region c.cluster-cluster.result c.index-as_slice-region.result c.args.clusters.now c.requires.serves.1 row_is of_row c.requires.clusters
    (sym c.in_default.is ∙ (c.position_of.ensures ∙ position_from-zero (λ (n : ℕ). n == c.cluster-cluster.result) c.args.clusters.now))

pub returns : goal.returns
returns c =
    let row_is = was_there c.args.script.now.regions c.args.region c.index-as_slice-region.result c.index-as_slice-region.result c.requires.there (c.index-as_slice-region.is ∙ ap (λ (l : List RegionRow). get_or l c.args.region c.index-as_slice-region.result) c.as_slice.ensures) refl in
    let of_row = cluster_at c.args.script.now c.args.region c.index-as_slice-region.result c.index-as_slice-row.result c.cluster-cluster.result c.requires.rules row_is (c.index-as_slice-row.is ∙ ap (λ (l : List (List ℕ × List ℕ)). get_or l c.index-as_slice-region.result.image c.index-as_slice-row.result) c.as_slice-2.ensures) c.cluster-cluster.ensures.value in
    served_at c.args.script.now c.requires.serves.0 c.args.server.now c.args.region c.cluster-cluster.result c.index-as_slice-region.result c.args.clusters.now c.requires.serves.1 row_is of_row c.requires.clusters c.in-Some.at
    (c.in-Some.ensures ∙ position_from-zero (λ (n : ℕ). n == c.cluster-cluster.result) c.args.clusters.now)
