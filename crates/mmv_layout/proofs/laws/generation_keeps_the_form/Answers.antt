-- No test looks at the generation.
use Rattle.mmv_layout.proofs.Shapes.{generation_keeps}
use Rattle.mmv_layout.proofs.laws.generation_keeps_the_form.Goals as goal

pub returns : goal.returns
returns c = generation_keeps
