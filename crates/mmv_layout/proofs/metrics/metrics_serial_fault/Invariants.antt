-- Nothing was found so far.
use Rattle.std.proofs.Common.{◌≡◌}
use Rattle.std.specs.Prelude.{None}
use Rattle.mmv_layout.specs.EntryFields.{item_offset_in_metric, item_in_metric}
use Rattle.mmv_layout.specs.Entries.{metric_at, is_item}
use Rattle.mmv_layout.specs.Faults.{unless, first_below}
use Rattle.mmv_layout.proofs.metrics.metrics_serial_fault.Given as goal

abbrev pub invariant-loop-i : goal.invariant-loop-i
invariant-loop-i l = first_below l.i (λ i. unless (is_item (item_in_metric l.words (metric_at l.words i))) (item_offset_in_metric l.words (metric_at l.words i))) ≡ None
