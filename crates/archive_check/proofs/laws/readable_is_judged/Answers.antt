use Rattle.archive_check.proofs.Judged.{judged}
use Rattle.archive_check.proofs.laws.readable_is_judged.Goals as goal

pub returns : goal.returns
returns c = judged
