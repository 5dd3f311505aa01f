use Rattle.std.proofs.Common.{ap, subst}
use Rattle.region_rule.specs.Seats.{Token}
use Rattle.region_rule.specs.Calls.{KeepsForm}
use Rattle.region_rule.proofs.Fronts.{learned}
use Rattle.region_rule.proofs.Lawful.{informed_inside}
use Rattle.region_rule.proofs.stint.Stint.learn.Goals as goal

pub returns-clause-form : goal.returns-clause-form
returns-clause-form g c =
    let S = g.S.Shape.shaping in
    let v = c.self.inside.seat.me.0 in
    let w = c.learn_seat.new.seat.me.0 in
    let x = c.note.inside.seat.me.0 in
    let is = ap (λ m. m.0) c.learn_seat.ensures.both in
    subst (λ (t : Token). KeepsForm S t.view w) c.self.view_is
    (informed_inside S g.S.Shape.laws v x w c.self.invariant.2 c.self.invariant.4 c.self.invariant.5 (learned S v x w is c.learn_seat.ensures.knows))
