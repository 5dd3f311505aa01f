-- The theorem itself.
use Rattle.mmv_writer.proofs.WrittenTexts.{text_comes_back}
use Rattle.mmv_writer.proofs.text_laws.make_then_dump_gives_the_text_again.Goals as goal

pub returns : goal.returns
returns c = text_comes_back
