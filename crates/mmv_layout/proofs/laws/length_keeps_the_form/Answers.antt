-- No test looks behind the words.
use Rattle.mmv_layout.proofs.Shapes.{length_keeps}
use Rattle.mmv_layout.proofs.laws.length_keeps_the_form.Goals as goal

pub returns : goal.returns
returns c = length_keeps
