use Rattle.std.proofs.Common.{sym, ap, ◌∙◌}
use Rattle.region_rule.specs.declared.view.View.{View}
use Rattle.region_rule.specs.Calls.{Learns}
use Rattle.region_rule.proofs.Fronts.{learned}
use Rattle.region_rule.proofs.Relaying.{informed_under}
use Rattle.region_rule.proofs.change.Change.learn.Goals as goal

pub invariant_of-self : goal.invariant_of-self
invariant_of-self g c =
    let S = g.S.Shape.shaping in
    let v = c.self.inside.seat.me.0 in
    let new = c.learn_seat.new.seat.me.0 in
    let both = c.learn_seat.ensures.both in
    let is = ap (λ m. m.0) both in
    let learns : Learns S v c.note.inside.seat.me.0 new = learned S v c.note.inside.seat.me.0 new is c.learn_seat.ensures.knows in (
      ap (λ m. m.1) both ∙ c.self.invariant.0,
      ap (λ (x : View). x.role) is ∙ c.self.invariant.1,
      c.self.invariant.2 ∙ sym (ap (λ (x : View). x.number) is),
      informed_under S g.S.Shape.laws v c.note.inside.seat.me.0 new c.self.inside.image.items c.self.inside.next c.self.inside.generation c.self.invariant.3 learns,
    )
