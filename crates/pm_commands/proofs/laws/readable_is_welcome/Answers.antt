use Rattle.pm_commands.proofs.Welcome.{welcomes}
use Rattle.pm_commands.proofs.laws.readable_is_welcome.Goals as goal

pub returns : goal.returns
returns c = welcomes
