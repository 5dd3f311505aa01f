use Rattle.archive_reader.proofs.Downward.{value_answers_once}
use Rattle.archive_reader.proofs.laws.value_answers_once.Goals as goal

pub returns : goal.returns
returns c = value_answers_once
