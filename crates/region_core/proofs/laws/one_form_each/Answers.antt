use Rattle.region_core.proofs.Positions.{one_form}
use Rattle.region_core.proofs.laws.one_form_each.Goals as goal

pub returns : goal.returns
returns g c words passes log p q generation form other journal first second =
    one_form g.S.Shape.shaping g.S.Shape.laws words passes log journal p q generation form other first second
