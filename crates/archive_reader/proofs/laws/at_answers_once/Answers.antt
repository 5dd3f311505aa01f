use Rattle.archive_reader.proofs.Once.{at_answers_once}
use Rattle.archive_reader.proofs.laws.at_answers_once.Goals as goal

pub returns : goal.returns
returns c = at_answers_once
