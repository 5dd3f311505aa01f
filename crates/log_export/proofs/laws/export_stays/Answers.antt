use Rattle.log_export.proofs.Again as again
use Rattle.log_export.proofs.laws.export_stays.Goals as goal

pub returns : goal.returns
returns c = again.export_stays
