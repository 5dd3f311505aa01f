use Rattle.archive_reader.proofs.Once.{range_answers_once}
use Rattle.archive_reader.proofs.laws.range_answers_once.Goals as goal

pub returns : goal.returns
returns c = range_answers_once
