use Rattle.pcp_model.proofs.Recovered.{recovery_stays}
use Rattle.pcp_model.proofs.laws.recovery_stays.Goals as goal

pub returns : goal.returns
returns c = recovery_stays
