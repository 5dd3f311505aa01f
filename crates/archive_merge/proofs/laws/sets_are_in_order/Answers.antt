use Rattle.archive_merge.proofs.Firsts.{in_order}
use Rattle.archive_merge.proofs.laws.sets_are_in_order.Goals as goal

pub returns : goal.returns
returns c = in_order
