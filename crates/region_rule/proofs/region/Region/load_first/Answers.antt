use Rattle.std.proofs.Common.{arith}
use Rattle.region_core.specs.declared.act.Act.TheVariants.{Load}
use Rattle.region_rule.proofs.Acts.{on_first, loads}
use Rattle.region_rule.proofs.region.Region.load_first.Goals as goal

pub load-requires : goal.load-requires
load-requires g c =
    let S = g.S.Shape.shaping in
    let laws = g.S.Shape.laws in
    let v = c.args.seat.now.me.0 in
    let shared = c.self.inside.table.shared in
    on_first S laws shared.table_id shared.key.words shared.key.passes c.self.inside.capacity c.args.self.now c.args.seat.now c.self.view_is c.requires.here c.self.invariant.0 c.self.invariant.1 c.self.invariant.2
    Load 1 (λ n. n) (λ n. n) (omega arith) (loads S laws v 1)
