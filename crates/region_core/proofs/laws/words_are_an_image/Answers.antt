use Rattle.region_core.proofs.Positions.{mixed_at}
use Rattle.region_core.proofs.laws.words_are_an_image.Goals as goal

pub returns : goal.returns
returns g c words passes log p q found journal order same wide each = mixed_at g.S.Shape.shaping g.S.Shape.laws words passes log journal p q found order same wide each
