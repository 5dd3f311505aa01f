-- Each part that is read is in its range.
use Rattle.text_lines.proofs.ReadRanges.{line_range}
use Rattle.text_lines.proofs.layout_laws.read_line_is_line.Goals as goal

pub returns : goal.returns
returns c = line_range
