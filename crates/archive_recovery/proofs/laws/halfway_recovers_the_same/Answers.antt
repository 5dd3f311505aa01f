use Rattle.archive_recovery.proofs.Again.{recovers_same}
use Rattle.archive_recovery.proofs.laws.halfway_recovers_the_same.Goals as goal

pub returns : goal.returns
returns c = recovers_same
