use Rattle.std.proofs.Common.{◌≡◌, ℕ, List, [], ◌∷◌, ◌++◌, length, length-append, slice_get, Some, sym, ap, ◌∙◌, subst, arith}
use Rattle.run_passes.specs.Hands.{IsServedAt}
use Rattle.run_passes.proofs.WriterClusters.{one_more}
use Rattle.run_passes.proofs.positions.places_of.Goals as goal

pub place_at-at-requires-clause-clusters : goal.place_at-at-requires-clause-clusters
place_at-at-requires-clause-clusters c = c.deref.ensures.value ∙ c.in_ok-clusters.ensures c.requires.serves.0 c.args.server.now c.requires.serves.1

pub loop-region-preserved : goal.loop-region-preserved
loop-region-preserved c =
    let before = c.loop-region.invariant.1 in
    let long : length c.push.new.self.items ≡ length (c.loop-region.places.items ++ c.place_at-at.result ∷ []) = ap (λ (l : List ℕ). length l) c.in_ok-push.ensures.items in
    let both = length-append c.loop-region.places.items (c.place_at-at.result ∷ []) in (
      c.loop-region.invariant.0,
      omega arith,
      subst (λ (l : List ℕ). (i j : ℕ) → slice_get l i ≡ Some j → IsServedAt c.args.script.now c.args.server.now i j) (sym c.in_ok-push.ensures.items)
          (one_more (λ i j. IsServedAt c.args.script.now c.args.server.now i j) c.loop-region.places.items c.place_at-at.result c.loop-region.invariant.2
          (subst (λ (n : ℕ). IsServedAt c.args.script.now c.args.server.now n c.place_at-at.result) (sym before) c.place_at-at.ensures)),
    )
