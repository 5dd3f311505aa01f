use Rattle.pcp_model.proofs.OneReading.{one_reading}
use Rattle.pcp_model.proofs.laws.files_are_read_once.Goals as goal

pub returns : goal.returns
returns c = one_reading
