use Rattle.pcp_model.proofs.Unique.{one_label}
use Rattle.archive_frame.proofs.laws.label_says_one_thing.Goals as goal

pub returns : goal.returns
returns c = one_label
