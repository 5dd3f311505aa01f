use Rattle.logger_core.proofs.Announced.{item_announced}
use Rattle.logger_core.proofs.laws.item_is_announced.Goals as goal

pub returns : goal.returns
returns c = item_announced
