use Rattle.region_rule.proofs.Lawful.{closes_all}
use Rattle.region_rule.proofs.laws.last_closes_all.Goals as goal

pub returns : goal.returns
returns g c v words closes last = closes_all g.S.Shape.shaping v words closes last
