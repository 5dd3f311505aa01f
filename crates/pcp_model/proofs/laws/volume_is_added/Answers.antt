use Rattle.pcp_model.proofs.Added.{volume_added}
use Rattle.pcp_model.proofs.laws.volume_is_added.Goals as goal

pub returns : goal.returns
returns c = volume_added
