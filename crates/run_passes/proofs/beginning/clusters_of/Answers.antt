use Rattle.std.proofs.Common.{◌<◌, ◌≤◌, ℕ, List, [], ◌∷◌, ◌++◌, map, take, length, get_or, sym, refl, ap, ◌∙◌, subst}
use Rattle.std.proofs.lemmas.List.Sorted.{IsNonDecreasingBy-from_sort}
use Rattle.run_script.specs.declared.script.RegionRow.{RegionRow}
use Rattle.run_passes.specs.Crews.{cluster_of}
use Rattle.run_passes.proofs.Idling.{take_all}
use Rattle.run_passes.proofs.Placing.{cluster_at}
use Rattle.run_passes.proofs.Sorting.{clusters_are, map_more}
use Rattle.run_passes.proofs.Turning.{was_there}
use Rattle.run_passes.proofs.beginning.clusters_of.Goals as goal

pub loop-row-preserved : goal.loop-row-preserved
loop-row-preserved c =
    c.in_ok-push.ensures.items
    ∙ (ap (λ (l : List ℕ). l ++ c.cluster.result ∷ []) c.loop-row.invariant
    ∙ (ap (λ (n : ℕ). map (cluster_of c.args.script.now) (take c.loop-row.row-index c.args.script.now.regions) ++ n ∷ []) (cluster_at c.args.script.now c.loop-row.row-index c.row-item.result c.index-as_slice-row.result c.cluster.result c.requires.rules (was_there c.args.script.now.regions c.loop-row.row-index c.row-item.result c.row-item.result (subst (λ (l : List RegionRow). c.loop-row.row-index < length l) c.as_slice-row-items.ensures c.loop-row-test.true) (c.row-item.is ∙ ap (λ (l : List RegionRow). get_or l c.loop-row.row-index c.row-item.result) c.as_slice-row-items.ensures) refl) (c.index-as_slice-row.is ∙ ap (λ (l : List (List ℕ × List ℕ)). get_or l c.row-item.result.image c.index-as_slice-row.result) c.as_slice.ensures) c.cluster.ensures.value)
    ∙ sym (map_more (cluster_of c.args.script.now) c.args.script.now.regions c.loop-row.row-index c.row-item.result (was_there c.args.script.now.regions c.loop-row.row-index c.row-item.result c.row-item.result (subst (λ (l : List RegionRow). c.loop-row.row-index < length l) c.as_slice-row-items.ensures c.loop-row-test.true) (c.row-item.is ∙ ap (λ (l : List RegionRow). get_or l c.loop-row.row-index c.row-item.result) c.as_slice-row-items.ensures) refl))))

pub returns : goal.returns
returns c = λ server serves.
    clusters_are c.args.script.now c.requires.rules server c.loop-row.clusters.items c.sort_unstable.new.self.items serves
    (c.loop-row.invariant ∙ ap (λ (l : List RegionRow). map (cluster_of c.args.script.now) l) (take_all c.args.script.now.regions c.loop-row.row-index (subst (λ (l : List RegionRow). length l ≤ c.loop-row.row-index) c.as_slice-row-items.ensures c.loop-row-test.false)))
    c.sort_unstable.ensures.permutation (IsNonDecreasingBy-from_sort (λ (n : ℕ). n) c.sort_unstable.new.self.items c.sort_unstable.ensures.sorted)
