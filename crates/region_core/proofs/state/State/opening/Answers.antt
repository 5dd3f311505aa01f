use Rattle.std.proofs.Common.{[], arith}
use Rattle.region_core.proofs.Gates.{gated_opening}
use Rattle.region_core.proofs.state.State.opening.Goals as goal

pub invariant_of-result : goal.invariant_of-result
invariant_of-result c = rw (c.in_ok-modes.ensures.items_if_clones_equal (λ y e. e)) (gated_opening [] c.args.passes (omega (arith, c.ranges.passes)))
