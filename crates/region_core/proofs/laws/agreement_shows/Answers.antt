use Rattle.region_core.proofs.Positions.{layout_at}
use Rattle.region_core.proofs.laws.agreement_shows.Goals as goal

pub returns : goal.returns
returns g c words passes log from k p q found journal since order opens closes same each = record {
  since = since;
  order = order;
  opens = opens;
  closes = closes;
  each = each;
  stretch = λ r after before. layout_at g.S.Shape.shaping g.S.Shape.laws words passes log journal p r q after before same;
}
