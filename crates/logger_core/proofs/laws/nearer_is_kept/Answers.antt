use Rattle.logger_core.proofs.Nearer.{still_kept}
use Rattle.logger_core.proofs.laws.nearer_is_kept.Goals as goal

pub returns : goal.returns
returns c = still_kept
