use Rattle.archive_merge.proofs.Grown.{of_both}
use Rattle.archive_merge.proofs.laws.sets_are_of_both.Goals as goal

pub returns : goal.returns
returns c = of_both
