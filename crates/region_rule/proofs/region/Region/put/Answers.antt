use Rattle.region_core.specs.declared.act.Act.TheVariants.{Put}
use Rattle.region_rule.proofs.Acts.{on_word, puts}
use Rattle.region_rule.proofs.region.Region.put.Goals as goal

pub store-requires : goal.store-requires
store-requires g c =
    let S = g.S.Shape.shaping in
    let laws = g.S.Shape.laws in
    let v = c.args.seat.now.me.0 in
    let shared = c.self.inside.table.shared in
    on_word S laws shared.table_id shared.key.words shared.key.passes c.self.inside.capacity c.args.self.now c.args.seat.now c.self.view_is c.requires.here c.self.invariant.0 c.self.invariant.1 c.self.invariant.2
    (λ u. Put u c.args.value) c.args.word (λ _. c.args.value) (λ _. c.args.value) c.requires.below (λ wide. puts S laws v c.args.word c.args.value c.requires.changing c.requires.unstable c.requires.not_first c.requires.not_second wide c.ranges.value.fits)
