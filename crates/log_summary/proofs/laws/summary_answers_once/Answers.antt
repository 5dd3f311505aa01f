use Rattle.log_summary.proofs.Once.{answers_once}
use Rattle.log_summary.proofs.laws.summary_answers_once.Goals as goal

pub returns : goal.returns
returns c = answers_once
