use Rattle.logger_core.proofs.Announced.{records_announced}
use Rattle.logger_core.proofs.laws.records_are_announced.Goals as goal

pub returns : goal.returns
returns c = records_announced
