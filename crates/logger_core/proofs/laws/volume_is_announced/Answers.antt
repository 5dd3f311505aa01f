use Rattle.logger_core.proofs.Switched.{volume_announced}
use Rattle.logger_core.proofs.laws.volume_is_announced.Goals as goal

pub returns : goal.returns
returns c = volume_announced
