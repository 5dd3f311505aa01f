-- No byte is read of which none may be written.
use Rattle.text_lines.proofs.TextRanges.{takes_texts, takes_helps}
use Rattle.text_lines.proofs.laws.read_text_is_text.Goals as goal

pub returns-clause-text : goal.returns-clause-text
returns-clause-text c = takes_texts

pub returns-clause-help : goal.returns-clause-help
returns-clause-help c = takes_helps
