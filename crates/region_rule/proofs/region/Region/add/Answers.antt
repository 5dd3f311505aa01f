use Rattle.std.proofs.Common.{◌+◌, ◌%◌, ◌^◌}
use Rattle.region_core.specs.declared.act.Act.TheVariants.{Add}
use Rattle.region_rule.proofs.Acts.{on_word, adds}
use Rattle.region_rule.proofs.region.Region.add.Goals as goal

pub fetch_add-requires : goal.fetch_add-requires
fetch_add-requires g c =
    let S = g.S.Shape.shaping in
    let laws = g.S.Shape.laws in
    let v = c.args.seat.now.me.0 in
    let shared = c.self.inside.table.shared in
    on_word S laws shared.table_id shared.key.words shared.key.passes c.self.inside.capacity c.args.self.now c.args.seat.now c.self.view_is c.requires.here c.self.invariant.0 c.self.invariant.1 c.self.invariant.2
    (λ u. Add u c.args.number) c.args.word (λ n. (n + c.args.number) % 2 ^ 64) (λ n. n) c.requires.below (λ wide. adds S laws v c.args.word c.args.number c.requires.inside wide c.ranges.number.fits c.requires.takes)
