-- The first that is found decides.
use Rattle.std.proofs.Common.{arith}
use Rattle.mmv_layout.specs.Entries.{metric_count, metric_at}
use Rattle.mmv_layout.specs.Faults.{metrics_reference_fault, metric_reference_fault}
use Rattle.mmv_layout.proofs.Firsts.{found_stops}
use Rattle.mmv_layout.proofs.metrics.references_fault.Goals as goal

pub returns-in-Some : goal.returns-in-Some
unfolding metrics_reference_fault
returns-in-Some c = found_stops (metric_count c.args.words.now) c.loop-i.i _ (λ i. metric_reference_fault c.args.words.now (metric_at c.args.words.now i)) (omega arith) c.loop-i.invariant (grind arith)
