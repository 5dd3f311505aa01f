use Rattle.archive_volume.proofs.Written.{written_as}
use Rattle.archive_volume.proofs.laws.written_item_is_read.Goals as goal

pub returns : goal.returns
returns c = written_as
