use Rattle.archive_reader.proofs.Searching.{places_part}
use Rattle.archive_reader.proofs.laws.places_part.Goals as goal

pub returns : goal.returns
returns c = places_part
