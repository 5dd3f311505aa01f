-- By the kind and the half of its range.
use Rattle.text_lines.proofs.ContentRanges.{content_is_read, content_range, content_stands}
use Rattle.text_lines.proofs.layout_laws.written_content_is_read.Goals as goal

pub returns-clause-read : goal.returns-clause-read
returns-clause-read c = content_is_read

pub returns-clause-only : goal.returns-clause-only
returns-clause-only c = content_range

pub returns-clause-written : goal.returns-clause-written
returns-clause-written c = content_stands
