use Rattle.logging_run.proofs.Losing.{acknowledges}
use Rattle.logging_run.proofs.laws.sure_runs_are_acknowledged.Goals as goal

pub returns : goal.returns
returns c = acknowledges
