use Rattle.logger_core.proofs.StillDescribed.{described_on}
use Rattle.logger_core.proofs.laws.later_records_describe.Goals as goal

pub returns : goal.returns
returns c = described_on
