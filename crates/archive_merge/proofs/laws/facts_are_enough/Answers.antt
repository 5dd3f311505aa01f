use Rattle.archive_merge.proofs.Enough.{facts_enough}
use Rattle.archive_merge.proofs.laws.facts_are_enough.Goals as goal

pub returns : goal.returns
returns c = facts_enough
