use Rattle.region_core.proofs.Positions.{sound_at, rises_at}
use Rattle.region_core.proofs.laws.generations_rise.Goals as goal

pub returns : goal.returns
returns g c words passes log p q journal order =
    let rises = rises_at g.S.Shape.shaping g.S.Shape.laws words passes log journal p q order in
    ((sound_at g.S.Shape.shaping g.S.Shape.laws words passes log journal p).ordered, rises.first, rises.second)
