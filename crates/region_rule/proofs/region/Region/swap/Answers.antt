use Rattle.region_core.specs.declared.act.Act.TheVariants.{Swap}
use Rattle.region_rule.proofs.Acts.{on_word, swaps}
use Rattle.region_rule.proofs.region.Region.swap.Goals as goal

pub swap-requires : goal.swap-requires
swap-requires g c =
    let S = g.S.Shape.shaping in
    let laws = g.S.Shape.laws in
    let v = c.args.seat.now.me.0 in
    let shared = c.self.inside.table.shared in
    on_word S laws shared.table_id shared.key.words shared.key.passes c.self.inside.capacity c.args.self.now c.args.seat.now c.self.view_is c.requires.here c.self.invariant.0 c.self.invariant.1 c.self.invariant.2
    (λ u. Swap u c.args.value) c.args.word (λ _. c.args.value) (λ n. n) c.requires.below (λ wide. swaps S laws v c.args.word c.args.value c.requires.inside wide c.ranges.value.fits c.requires.takes)
