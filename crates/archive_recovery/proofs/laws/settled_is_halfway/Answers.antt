use Rattle.archive_recovery.proofs.Settled.{settled_begins}
use Rattle.archive_recovery.proofs.laws.settled_is_halfway.Goals as goal

pub returns : goal.returns
returns c = settled_begins
