use Rattle.archive_meta.proofs.NowDescribed.{missing_describe}
use Rattle.archive_meta.proofs.laws.missing_records_describe.Goals as goal

pub returns : goal.returns
returns c = missing_describe
