use Rattle.archive_recovery.proofs.Again.{reads_on}
use Rattle.archive_recovery.proofs.laws.halfway_is_read.Goals as goal

pub returns : goal.returns
returns c = reads_on
