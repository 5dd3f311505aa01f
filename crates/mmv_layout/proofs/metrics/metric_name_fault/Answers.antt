-- The first that is found decides.
use Rattle.std.proofs.Common.{arith}
use Rattle.mmv_layout.specs.Entries.{metric_count, metric_at, has_name}
use Rattle.mmv_layout.specs.Faults.{metric_name_fault}
use Rattle.mmv_layout.proofs.Firsts.{test_stops}
use Rattle.mmv_layout.proofs.metrics.metric_name_fault.Goals as goal

pub returns-then-not-named : goal.returns-then-not-named
unfolding metric_name_fault
returns-then-not-named c = test_stops (metric_count c.args.words.now) c.loop-i.i _ (λ i. has_name c.args.words.now (metric_at c.args.words.now i)) (λ i. metric_at c.args.words.now i) (omega arith) c.loop-i.invariant (grind arith) (grind arith)
