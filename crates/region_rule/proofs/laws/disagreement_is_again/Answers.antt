use Rattle.region_rule.proofs.Showing.{disagrees}
use Rattle.region_rule.proofs.laws.disagreement_is_again.Goals as goal

pub returns : goal.returns
returns g c v w first last found r differ = disagrees g.S.Shape.shaping v w first last found r differ
