use Rattle.logger_core.proofs.Reopened.{recovered_whole}
use Rattle.logger_core.proofs.laws.recovered_is_whole.Goals as goal

pub returns : goal.returns
returns c = recovered_whole
