use Rattle.logger_core.proofs.Whole.{whole_is_kept}
use Rattle.logger_core.proofs.laws.whole_is_kept.Goals as goal

pub returns : goal.returns
returns c = whole_is_kept
