use Rattle.pcp_model.proofs.CutArchive.{first_part}
use Rattle.pcp_model.proofs.laws.cuts_are_read.Goals as goal

pub returns : goal.returns
returns c = first_part
