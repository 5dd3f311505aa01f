-- The word is that of the value field, or of the extra field.
use Rattle.mmv_layout.proofs.FormSays.{slot_holds}
use Rattle.mmv_layout.proofs.laws.slot_holds_the_content.Goals as goal

pub returns : goal.returns
returns c = slot_holds
