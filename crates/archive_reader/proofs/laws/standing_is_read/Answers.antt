use Rattle.archive_reader.proofs.Readable.{standing_is_read}
use Rattle.archive_reader.proofs.laws.standing_is_read.Goals as goal

pub returns : goal.returns
returns c = standing_is_read
