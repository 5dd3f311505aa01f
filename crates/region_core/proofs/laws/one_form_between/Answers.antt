use Rattle.region_core.proofs.Positions.{layout_at}
use Rattle.region_core.proofs.laws.one_form_between.Goals as goal

pub returns : goal.returns
returns g c words passes log p r q journal since until same = layout_at g.S.Shape.shaping g.S.Shape.laws words passes log journal p r q since until same
