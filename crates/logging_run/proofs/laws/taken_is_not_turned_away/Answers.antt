use Rattle.logging_run.proofs.Taken.{taken}
use Rattle.logging_run.proofs.laws.taken_is_not_turned_away.Goals as goal

pub returns : goal.returns
returns c = taken
