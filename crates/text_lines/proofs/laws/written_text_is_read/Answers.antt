-- Each escape is read as its byte, and the closing quote ends the text.
use Rattle.text_lines.proofs.Escapes.{text_is_read, help_is_read}
use Rattle.text_lines.proofs.laws.written_text_is_read.Goals as goal

pub returns-clause-text : goal.returns-clause-text
returns-clause-text c = text_is_read

pub returns-clause-help : goal.returns-clause-help
returns-clause-help c = help_is_read
