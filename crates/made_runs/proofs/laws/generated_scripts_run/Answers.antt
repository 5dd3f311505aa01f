-- By its blocks.
use Rattle.made_runs.proofs.Ticks.{generated_runs}
use Rattle.made_runs.proofs.laws.generated_scripts_run.Goals as goal

pub returns : goal.returns
returns c = generated_runs
