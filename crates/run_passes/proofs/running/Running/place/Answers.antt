use Rattle.std.proofs.Common.{◌==◌, ℕ, List, get_or, sym, ap, ◌∙◌, refl}
use Rattle.std.proofs.lemmas.Iterator.Adapters.{position_from-zero}
use Rattle.run_script.specs.declared.script.RegionRow.{RegionRow}
use Rattle.run_passes.proofs.Placing.{placed, position_found, cluster_there, cluster_at}
use Rattle.run_passes.proofs.Turning.{was_there}
use Rattle.run_passes.proofs.running.Running.place.Goals as goal

pub unreachable-requires : goal.unreachable-requires
unreachable-requires c =
    cluster_there c.args.script.now c.args.server.now c.args.region c.cluster-cluster.result c.index-as_slice-region.result c.deref.result.now c.requires.serves (was_there c.args.script.now.regions c.args.region c.index-as_slice-region.result c.index-as_slice-region.result c.requires.there (c.index-as_slice-region.is ∙ ap (λ (l : List RegionRow). get_or l c.args.region c.index-as_slice-region.result) c.as_slice.ensures) refl) (cluster_at c.args.script.now c.args.region c.index-as_slice-region.result c.index-as_slice-row.result c.cluster-cluster.result c.requires.rules (was_there c.args.script.now.regions c.args.region c.index-as_slice-region.result c.index-as_slice-region.result c.requires.there (c.index-as_slice-region.is ∙ ap (λ (l : List RegionRow). get_or l c.args.region c.index-as_slice-region.result) c.as_slice.ensures) refl) (c.index-as_slice-row.is ∙ ap (λ (l : List (List ℕ × List ℕ)). get_or l c.index-as_slice-region.result.image c.index-as_slice-row.result) c.as_slice-2.ensures) c.cluster-cluster.ensures.value) (c.deref.ensures.value ∙ c.requires.manned.clusters)
    (sym c.in_default.is ∙ (c.place_of.ensures ∙ position_from-zero (λ (n : ℕ). n == c.cluster-cluster.result) c.deref.result.now))

pub returns : goal.returns
returns c =
    placed c.args.script.now c.args.server.now c.args.region c.in-Some.at c.cluster-cluster.result c.index-as_slice-region.result c.deref.result.now c.requires.serves (was_there c.args.script.now.regions c.args.region c.index-as_slice-region.result c.index-as_slice-region.result c.requires.there (c.index-as_slice-region.is ∙ ap (λ (l : List RegionRow). get_or l c.args.region c.index-as_slice-region.result) c.as_slice.ensures) refl) (cluster_at c.args.script.now c.args.region c.index-as_slice-region.result c.index-as_slice-row.result c.cluster-cluster.result c.requires.rules (was_there c.args.script.now.regions c.args.region c.index-as_slice-region.result c.index-as_slice-region.result c.requires.there (c.index-as_slice-region.is ∙ ap (λ (l : List RegionRow). get_or l c.args.region c.index-as_slice-region.result) c.as_slice.ensures) refl) (c.index-as_slice-row.is ∙ ap (λ (l : List (List ℕ × List ℕ)). get_or l c.index-as_slice-region.result.image c.index-as_slice-row.result) c.as_slice-2.ensures) c.cluster-cluster.ensures.value) (c.deref.ensures.value ∙ c.requires.manned.clusters)
    (position_found c.deref.result.now c.cluster-cluster.result c.in-Some.at (c.in-Some.ensures ∙ position_from-zero (λ (n : ℕ). n == c.cluster-cluster.result) c.deref.result.now))
