use Rattle.archive_reader.proofs.Finds.{readable_stands}
use Rattle.archive_reader.proofs.laws.readable_stands.Goals as goal

pub returns : goal.returns
returns c = readable_stands
