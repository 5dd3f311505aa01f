-- The contents lie before the further words.
use Rattle.mmv_layout.proofs.FormSays.{layout_kept}
use Rattle.mmv_layout.proofs.laws.length_keeps_the_layout.Goals as goal

pub returns : goal.returns
returns c = layout_kept
