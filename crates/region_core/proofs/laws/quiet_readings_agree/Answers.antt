use Rattle.region_core.proofs.Positions.{not_again}
use Rattle.region_core.proofs.laws.quiet_readings_agree.Goals as goal

pub returns : goal.returns
returns g c words passes log from k first last p q journal stable none again =
    not_again g.S.Shape.shaping g.S.Shape.laws words passes log journal from k first last p q stable none again
