use Rattle.logger_core.proofs.Without.{items_first}
use Rattle.logger_core.proofs.laws.retired_items_are_first.Goals as goal

pub returns : goal.returns
returns c = items_first
