use Rattle.archive_reader.proofs.Searching.{ends_with_segment}
use Rattle.archive_reader.proofs.laws.segments_are_enough.Goals as goal

pub returns : goal.returns
returns c = ends_with_segment
