use Rattle.logger_core.proofs.Holds.{is_a_logger}
use Rattle.logger_core.proofs.laws.holding_nothing_is_a_logger.Goals as goal

pub returns : goal.returns
returns c = is_a_logger
