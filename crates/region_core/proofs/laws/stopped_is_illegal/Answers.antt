use Rattle.region_core.proofs.Positions.{allowed_at}
use Rattle.region_core.proofs.laws.stopped_is_illegal.Goals as goal

pub returns : goal.returns
returns g c words passes log position stop journal =
    stop.shut (allowed_at g.S.Shape.shaping g.S.Shape.laws words passes log journal position stop.entry stop.there).ready
