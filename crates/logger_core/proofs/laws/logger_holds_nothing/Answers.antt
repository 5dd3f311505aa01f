use Rattle.logger_core.proofs.Holds.{holds_nothing}
use Rattle.logger_core.proofs.laws.logger_holds_nothing.Goals as goal

pub returns : goal.returns
returns c = holds_nothing
