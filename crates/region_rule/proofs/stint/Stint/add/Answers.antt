use Rattle.std.proofs.Common.{subst}
use Rattle.region_core.specs.declared.act.Act.TheVariants.{Add}
use Rattle.region_rule.specs.Seats.{Token}
use Rattle.region_rule.specs.Calls.{KeepsForm}
use Rattle.region_rule.proofs.Lawful.{steps_inside}
use Rattle.region_rule.proofs.stint.Stint.add.Goals as goal

pub returns-clause-form : goal.returns-clause-form
returns-clause-form g c =
    let S = g.S.Shape.shaping in
    let v = c.self.inside.seat.me.0 in
    let w = c.add.new.seat.me.0 in
    subst (λ (t : Token). KeepsForm S t.view w) c.self.view_is
    (steps_inside S g.S.Shape.laws v w (Add c.args.word c.args.delta) c.add.result c.add.ensures.tells.0 c.self.invariant.2 c.self.invariant.4)
