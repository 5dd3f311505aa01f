-- Each part is read again, and what it leaves is the next.
use Rattle.text_lines.proofs.LayoutLineBytes.{line_in_line}
use Rattle.text_lines.proofs.LineReads.{line_is_read}
use Rattle.text_lines.proofs.layout_laws.written_line_is_read.Goals as goal

pub returns-clause-read : goal.returns-clause-read
returns-clause-read c = line_is_read

pub returns-clause-one : goal.returns-clause-one
returns-clause-one c = line_in_line
