use Rattle.archive_merge.proofs.Steps.{stands_once}
use Rattle.archive_merge.proofs.laws.each_stamp_stands_once.Goals as goal

pub returns : goal.returns
returns c = stands_once
