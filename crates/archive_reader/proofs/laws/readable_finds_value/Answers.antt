use Rattle.archive_reader.proofs.Downward.{readable_finds_value}
use Rattle.archive_reader.proofs.laws.readable_finds_value.Goals as goal

pub returns : goal.returns
returns c = readable_finds_value
