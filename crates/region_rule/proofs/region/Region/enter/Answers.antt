use Rattle.std.proofs.Common.{◌+◌, ◌%◌, ◌^◌, arith}
use Rattle.region_core.specs.declared.act.Act.TheVariants.{Enter}
use Rattle.region_rule.proofs.Acts.{on_cell, enters}
use Rattle.region_rule.proofs.region.Region.enter.Goals as goal

pub fetch_add-requires : goal.fetch_add-requires
fetch_add-requires g c =
    let S = g.S.Shape.shaping in
    let laws = g.S.Shape.laws in
    let v = c.args.seat.now.me.0 in
    let shared = c.self.inside.table.shared in
    on_cell S laws shared.table_id shared.key.words shared.key.passes c.self.inside.capacity c.args.self.now c.args.seat.now c.self.view_is c.requires.here c.self.invariant.0 c.self.invariant.1 c.self.invariant.2
    Enter 0 (λ n. (n + 1) % 2 ^ 64) (λ n. n) (omega arith) (enters S laws v c.requires.idle)
