use Rattle.region_rule.proofs.Showing.{agrees}
use Rattle.region_rule.proofs.laws.agreement_is_shown.Goals as goal

pub returns : goal.returns
returns g c v w first last found r same = agrees g.S.Shape.shaping g.S.Shape.laws v w first last found r same
