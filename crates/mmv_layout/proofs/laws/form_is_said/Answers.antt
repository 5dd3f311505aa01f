-- Both are read from the same rows.
use Rattle.mmv_layout.proofs.FormSays.{form_said}
use Rattle.mmv_layout.proofs.laws.form_is_said.Goals as goal

pub returns : goal.returns
returns c = form_said
