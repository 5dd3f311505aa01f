use Rattle.log_extract.proofs.Reports.{next_judged}
use Rattle.log_extract.proofs.laws.next_is_judged.Goals as goal

pub returns : goal.returns
returns c = next_judged
