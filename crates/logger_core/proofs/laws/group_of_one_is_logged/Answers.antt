use Rattle.logger_core.proofs.GroupLogged.{one_is_logged}
use Rattle.logger_core.proofs.laws.group_of_one_is_logged.Goals as goal

pub returns : goal.returns
returns c = one_is_logged
