-- The theorem itself.
use Rattle.mmv_writer.proofs.WrittenTexts.{written_text_is_read}
use Rattle.mmv_writer.proofs.text_laws.written_text_is_read.Goals as goal

pub returns : goal.returns
returns c = written_text_is_read
