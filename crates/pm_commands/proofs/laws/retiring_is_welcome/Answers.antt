use Rattle.pm_commands.proofs.Lives.{passes_current}
use Rattle.pm_commands.proofs.laws.retiring_is_welcome.Goals as goal

pub returns : goal.returns
returns c = passes_current
