-- The word is that of the value field, or of the extra field.
use Rattle.mmv_layout.proofs.FormSays.{have_slots}
use Rattle.mmv_layout.proofs.laws.values_have_slots.Goals as goal

pub returns : goal.returns
returns c = have_slots
