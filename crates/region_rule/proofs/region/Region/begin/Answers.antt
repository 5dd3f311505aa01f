use Rattle.std.proofs.Common.{arith}
use Rattle.region_core.specs.declared.act.Act.TheVariants.{Begin}
use Rattle.region_rule.proofs.Acts.{on_cell, begins}
use Rattle.region_rule.proofs.region.Region.begin.Goals as goal

pub store-requires : goal.store-requires
store-requires g c =
    let S = g.S.Shape.shaping in
    let laws = g.S.Shape.laws in
    let v = c.args.seat.now.me.0 in
    let shared = c.self.inside.table.shared in
    on_cell S laws shared.table_id shared.key.words shared.key.passes c.self.inside.capacity c.args.self.now c.args.seat.now c.self.view_is c.requires.here c.self.invariant.0 c.self.invariant.1 c.self.invariant.2
    (Begin c.args.generation) 2 (λ _. c.args.generation) (λ _. c.args.generation) (omega arith) (begins S laws v c.args.generation c.requires.changing c.requires.stable c.requires.above c.ranges.generation.fits)
