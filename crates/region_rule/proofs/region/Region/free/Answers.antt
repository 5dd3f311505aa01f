use Rattle.std.proofs.Common.{◌+◌, ◌-◌, ◌%◌, ◌^◌, arith}
use Rattle.region_core.specs.declared.act.Act.TheVariants.{Free}
use Rattle.region_rule.proofs.Acts.{on_cell, frees}
use Rattle.region_rule.proofs.region.Region.free.Goals as goal

pub fetch_sub-requires : goal.fetch_sub-requires
fetch_sub-requires g c =
    let S = g.S.Shape.shaping in
    let laws = g.S.Shape.laws in
    let v = c.args.seat.now.me.0 in
    let shared = c.self.inside.table.shared in
    on_cell S laws shared.table_id shared.key.words shared.key.passes c.self.inside.capacity c.args.self.now c.args.seat.now c.self.view_is c.requires.here c.self.invariant.0 c.self.invariant.1 c.self.invariant.2
    Free 0 (λ n. (n + (2 ^ 64 - 2 ^ 63)) % 2 ^ 64) (λ n. n) (omega arith) (frees S laws v c.requires.changing c.requires.stable)
