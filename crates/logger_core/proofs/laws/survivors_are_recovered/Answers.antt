use Rattle.logger_core.proofs.Recovered.{survivors_recovered}
use Rattle.logger_core.proofs.laws.survivors_are_recovered.Goals as goal

pub returns : goal.returns
returns c = survivors_recovered
