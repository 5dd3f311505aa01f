use Rattle.pm_summing.proofs.Coming.{one_summary}
use Rattle.pm_summing.proofs.laws.archive_has_one_summary.Goals as goal

pub returns : goal.returns
returns c = one_summary
