use Rattle.logger_core.proofs.WithoutRecovered.{is_recovered}
use Rattle.logger_core.proofs.laws.retired_is_recovered.Goals as goal

pub returns : goal.returns
returns c = is_recovered
