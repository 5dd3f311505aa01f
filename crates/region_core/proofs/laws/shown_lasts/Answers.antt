use Rattle.region_core.proofs.Lasting.{shown_longer}
use Rattle.region_core.proofs.laws.shown_lasts.Goals as goal

pub returns : goal.returns
returns g c start log more earlier from k reading h s = (s.0, s.1, shown_longer g.S.Shape.shaping start log more earlier from k s.0 s.1 reading h s.2)
