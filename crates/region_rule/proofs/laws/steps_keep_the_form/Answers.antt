use Rattle.region_rule.proofs.Lawful.{steps_inside}
use Rattle.region_rule.proofs.laws.steps_keep_the_form.Goals as goal

pub returns : goal.returns
returns g c v w act n e mode there = steps_inside g.S.Shape.shaping g.S.Shape.laws v w act n e mode there
