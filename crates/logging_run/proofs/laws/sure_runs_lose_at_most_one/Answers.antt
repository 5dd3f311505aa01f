use Rattle.logging_run.proofs.Losing.{loses_one}
use Rattle.logging_run.proofs.laws.sure_runs_lose_at_most_one.Goals as goal

pub returns : goal.returns
returns c = loses_one
