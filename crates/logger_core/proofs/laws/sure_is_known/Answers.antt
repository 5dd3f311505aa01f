use Rattle.logger_core.proofs.Nearer.{all_known}
use Rattle.logger_core.proofs.laws.sure_is_known.Goals as goal

pub returns : goal.returns
returns c = all_known
