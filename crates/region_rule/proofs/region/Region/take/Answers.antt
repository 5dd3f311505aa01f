use Rattle.std.proofs.Common.{◌^◌, eqb, arith}
use Rattle.region_core.specs.declared.act.Act.TheVariants.{Take}
use prog.Atomic.{either}
use Rattle.region_rule.proofs.Acts.{on_cell, takes}
use Rattle.region_rule.proofs.region.Region.take.Goals as goal

pub compare_exchange-requires : goal.compare_exchange-requires
compare_exchange-requires g c =
    let S = g.S.Shape.shaping in
    let laws = g.S.Shape.laws in
    let v = c.args.seat.now.me.0 in
    let shared = c.self.inside.table.shared in
    on_cell S laws shared.table_id shared.key.words shared.key.passes c.self.inside.capacity c.args.self.now c.args.seat.now c.self.view_is c.requires.here c.self.invariant.0 c.self.invariant.1 c.self.invariant.2
    Take 0 (λ n. either (eqb n 0) (2 ^ 63) n) (λ n. n) (omega arith) (takes S laws v c.requires.idle)
