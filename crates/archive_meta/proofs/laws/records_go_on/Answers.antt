use Rattle.archive_meta.proofs.Frames.{go_on}
use Rattle.archive_meta.proofs.laws.records_go_on.Goals as goal

pub returns : goal.returns
returns c = go_on
