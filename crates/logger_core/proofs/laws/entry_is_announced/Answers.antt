use Rattle.logger_core.proofs.Announced.{entry_announced}
use Rattle.logger_core.proofs.laws.entry_is_announced.Goals as goal

pub returns : goal.returns
returns c = entry_announced
