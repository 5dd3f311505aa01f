-- The first that is found decides.
use Rattle.std.proofs.Common.{arith}
use Rattle.std.proofs.lemmas.Bool.Decides.{nat_tests}
use Rattle.mmv_layout.specs.EntryFields.{item_offset_in_metric, item_in_metric}
use Rattle.mmv_layout.specs.Entries.{metric_count, metric_at, is_item}
use Rattle.mmv_layout.specs.Faults.{metrics_serial_fault}
use Rattle.mmv_layout.proofs.Firsts.{test_stops}
use Rattle.mmv_layout.proofs.metrics.metrics_serial_fault.Goals as goal

pub returns-then-item_in_metric-gt1023 : goal.returns-then-item_in_metric-gt1023
unfolding metrics_serial_fault
returns-then-item_in_metric-gt1023 c = test_stops (metric_count c.args.words.now) c.loop-i.i _ (λ i. is_item (item_in_metric c.args.words.now (metric_at c.args.words.now i))) (λ i. item_offset_in_metric c.args.words.now (metric_at c.args.words.now i)) (omega arith) c.loop-i.invariant (grind (arith, nat_tests)) (grind (arith, nat_tests))
