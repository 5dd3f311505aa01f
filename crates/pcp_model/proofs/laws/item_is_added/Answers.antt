use Rattle.pcp_model.proofs.Added.{item_added}
use Rattle.pcp_model.proofs.laws.item_is_added.Goals as goal

pub returns : goal.returns
returns c = item_added
