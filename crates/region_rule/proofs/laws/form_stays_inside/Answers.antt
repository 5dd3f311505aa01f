use Rattle.region_rule.proofs.Lawful.{stays_inside}
use Rattle.region_rule.proofs.laws.form_stays_inside.Goals as goal

pub returns : goal.returns
returns g c v rest journal none mode there = stays_inside g.S.Shape.shaping g.S.Shape.laws v rest journal none mode there
