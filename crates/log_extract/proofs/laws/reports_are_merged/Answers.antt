use Rattle.log_extract.proofs.Reports.{reports_merged}
use Rattle.log_extract.proofs.laws.reports_are_merged.Goals as goal

pub returns : goal.returns
returns c = reports_merged
