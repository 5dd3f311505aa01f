use Rattle.logging_run.proofs.OneArchive.{one_away}
use Rattle.logging_run.proofs.laws.turned_away_for_one.Goals as goal

pub returns : goal.returns
returns c = one_away
