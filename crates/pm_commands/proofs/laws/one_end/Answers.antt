use Rattle.pm_runs.proofs.OneRun.{one_run}
use Rattle.pm_commands.proofs.laws.one_end.Goals as goal

pub returns : goal.returns
returns c = one_run
