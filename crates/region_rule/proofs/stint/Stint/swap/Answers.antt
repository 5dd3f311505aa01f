use Rattle.std.proofs.Common.{subst}
use Rattle.region_core.specs.declared.act.Act.TheVariants.{Swap}
use Rattle.region_rule.specs.Seats.{Token}
use Rattle.region_rule.specs.Calls.{KeepsForm}
use Rattle.region_rule.proofs.Lawful.{steps_inside}
use Rattle.region_rule.proofs.stint.Stint.swap.Goals as goal

pub returns-clause-form : goal.returns-clause-form
returns-clause-form g c =
    let S = g.S.Shape.shaping in
    let v = c.self.inside.seat.me.0 in
    let w = c.swap.new.seat.me.0 in
    subst (λ (t : Token). KeepsForm S t.view w) c.self.view_is
    (steps_inside S g.S.Shape.laws v w (Swap c.args.word c.args.value) c.swap.result c.swap.ensures.tells.0 c.self.invariant.2 c.self.invariant.4)
