use Rattle.archive_merge.proofs.Reasons.{says_why}
use Rattle.archive_merge.proofs.laws.misfits_say_why.Goals as goal

pub returns : goal.returns
returns c = says_why
