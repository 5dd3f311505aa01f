use Rattle.pm_commands.proofs.Welcome.{welcomes_by_time}
use Rattle.pm_commands.proofs.laws.sound_is_welcome.Goals as goal

pub returns : goal.returns
returns c = welcomes_by_time
