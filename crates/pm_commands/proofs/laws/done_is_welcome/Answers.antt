use Rattle.pm_runs.proofs.Coherent.{done_welcome}
use Rattle.pm_commands.proofs.laws.done_is_welcome.Goals as goal

pub returns : goal.returns
returns c = done_welcome
