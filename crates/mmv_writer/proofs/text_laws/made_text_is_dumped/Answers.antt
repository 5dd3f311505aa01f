-- The theorem itself.
use Rattle.mmv_writer.proofs.TextDrafts.{made_text_is_dumped}
use Rattle.mmv_writer.proofs.text_laws.made_text_is_dumped.Goals as goal

pub returns : goal.returns
returns c = made_text_is_dumped
