use Rattle.archive_reader.proofs.OnceLoaded.{load_answers_once}
use Rattle.archive_reader.proofs.laws.load_answers_once.Goals as goal

pub returns : goal.returns
returns c = load_answers_once
