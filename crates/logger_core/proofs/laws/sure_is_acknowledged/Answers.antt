use Rattle.logger_core.proofs.Nearer.{all_acknowledged}
use Rattle.logger_core.proofs.laws.sure_is_acknowledged.Goals as goal

pub returns : goal.returns
returns c = all_acknowledged
