use Rattle.region_core.proofs.Positions.{shown_image}
use Rattle.region_core.proofs.laws.shown_words_are_an_image.Goals as goal

pub returns : goal.returns
returns g c words passes log from k p q reading found journal shown wide each =
    shown_image g.S.Shape.shaping g.S.Shape.laws words passes log journal from k p q reading found shown wide each
