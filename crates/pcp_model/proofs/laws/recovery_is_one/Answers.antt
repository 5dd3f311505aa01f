use Rattle.pcp_model.proofs.OneRecovery.{one_recovery}
use Rattle.pcp_model.proofs.laws.recovery_is_one.Goals as goal

pub returns : goal.returns
returns c = one_recovery
