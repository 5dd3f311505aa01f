use Rattle.region_rule.proofs.Lawful.{sees_all}
use Rattle.region_rule.proofs.laws.last_sees_all.Goals as goal

pub returns : goal.returns
returns g c v w act n e last = sees_all g.S.Shape.shaping v w act n e last
