use Rattle.pcp_model.proofs.Added.{entry_added}
use Rattle.pcp_model.proofs.laws.entry_is_added.Goals as goal

pub returns : goal.returns
returns c = entry_added
