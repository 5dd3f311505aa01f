use Rattle.logger_core.proofs.Greatest.{greatest_in_is}
use Rattle.logger_core.proofs.laws.given_is_greatest.Goals as goal

pub returns : goal.returns
returns c = greatest_in_is
