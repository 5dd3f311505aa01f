use Rattle.log_extract.proofs.Reports.{all_merged}
use Rattle.log_extract.proofs.laws.all_is_merged.Goals as goal

pub returns : goal.returns
returns c = all_merged
