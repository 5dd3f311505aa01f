-- One string after the other.
use Rattle.mmv_layout.proofs.FormSays.{texts_said}
use Rattle.mmv_layout.proofs.laws.texts_are_the_forms.Goals as goal

pub returns : goal.returns
returns c = texts_said
