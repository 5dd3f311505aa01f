use Rattle.region_core.specs.Laws.{region_at}
use Rattle.region_core.proofs.Gates.{none_changing}
use Rattle.region_core.proofs.Positions.{sound_at}
use Rattle.region_core.proofs.laws.unchanging_is_stable.Goals as goal

pub returns : goal.returns
returns g c words passes log p journal none =
    let sound = sound_at g.S.Shape.shaping g.S.Shape.laws words passes log journal p in
    sound.shut (none_changing (region_at words passes log p).modes none)
