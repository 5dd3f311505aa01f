use Rattle.logger_core.proofs.Without.{goes_on}
use Rattle.logger_core.proofs.laws.retiring_goes_on.Goals as goal

pub returns : goal.returns
returns c = goes_on
