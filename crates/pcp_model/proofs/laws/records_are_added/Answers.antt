use Rattle.pcp_model.proofs.Added.{records_added}
use Rattle.pcp_model.proofs.laws.records_are_added.Goals as goal

pub returns : goal.returns
returns c = records_added
