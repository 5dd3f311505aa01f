use Rattle.pcp_model.proofs.Recovered.{recovery_is_kept}
use Rattle.pcp_model.proofs.laws.recovery_keeps_the_scan.Goals as goal

pub returns : goal.returns
returns c = recovery_is_kept
