use Rattle.record_run.proofs.Counted.{words_are_sums}
use Rattle.record_run.proofs.laws.words_are_sums.Goals as goal

pub returns : goal.returns
returns c = words_are_sums
