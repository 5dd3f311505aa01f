use Rattle.region_rule.specs.Views.{now}
use Rattle.region_rule.proofs.Gathered.{idle_in}
use Rattle.region_rule.proofs.laws.last_leaves_idle.Goals as goal

pub returns : goal.returns
returns g c v k knows last below other = idle_in (now v) k v.kept knows.idle (last k below other)
