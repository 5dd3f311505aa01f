-- No test looks at a value, but whether a string value leads to a string.
use Rattle.mmv_layout.proofs.Shapes.{value_keeps}
use Rattle.mmv_layout.proofs.laws.value_keeps_the_form.Goals as goal

pub returns : goal.returns
returns c = value_keeps
