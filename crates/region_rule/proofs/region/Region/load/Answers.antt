use Rattle.region_core.specs.declared.act.Act.TheVariants.{Load}
use Rattle.region_rule.proofs.Acts.{on_word, loads}
use Rattle.region_rule.proofs.region.Region.load.Goals as goal

pub load-requires : goal.load-requires
load-requires g c =
    let S = g.S.Shape.shaping in
    let laws = g.S.Shape.laws in
    let v = c.args.seat.now.me.0 in
    let shared = c.self.inside.table.shared in
    on_word S laws shared.table_id shared.key.words shared.key.passes c.self.inside.capacity c.args.self.now c.args.seat.now c.self.view_is c.requires.here c.self.invariant.0 c.self.invariant.1 c.self.invariant.2
    Load c.args.word (λ n. n) (λ n. n) c.requires.below (loads S laws v c.args.word)
