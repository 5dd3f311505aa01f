use Rattle.record_run.proofs.Counted.{counters_are_sums}
use Rattle.record_run.proofs.laws.counters_are_sums.Goals as goal

pub returns : goal.returns
returns c = counters_are_sums
