-- Nothing was found so far.
use Rattle.std.proofs.Common.{◌≡◌}
use Rattle.std.specs.Prelude.{None}
use Rattle.mmv_layout.specs.Entries.{metric_at, has_name}
use Rattle.mmv_layout.specs.Faults.{unless, first_below}
use Rattle.mmv_layout.proofs.metrics.metric_name_fault.Given as goal

abbrev pub invariant-loop-i : goal.invariant-loop-i
invariant-loop-i l = first_below l.i (λ i. unless (has_name l.words (metric_at l.words i)) (metric_at l.words i)) ≡ None
