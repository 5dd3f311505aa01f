use Rattle.std.proofs.Common.{arith}
use Rattle.region_core.specs.declared.act.Act.TheVariants.{End}
use Rattle.region_rule.proofs.Acts.{on_cell, ends}
use Rattle.region_rule.proofs.region.Region.end.Goals as goal

pub store-requires : goal.store-requires
store-requires g c =
    let S = g.S.Shape.shaping in
    let laws = g.S.Shape.laws in
    let v = c.args.seat.now.me.0 in
    let shared = c.self.inside.table.shared in
    on_cell S laws shared.table_id shared.key.words shared.key.passes c.self.inside.capacity c.args.self.now c.args.seat.now c.self.view_is c.requires.here c.self.invariant.0 c.self.invariant.1 c.self.invariant.2
    (End c.args.generation) 3 (λ _. c.args.generation) (λ _. c.args.generation) (omega arith) (ends S laws v c.args.generation c.requires.changing c.requires.first c.requires.second c.requires.image)
