-- Nothing was found so far.
use Rattle.std.proofs.Common.{◌≡◌}
use Rattle.std.specs.Prelude.{None}
use Rattle.mmv_layout.specs.Entries.{metric_at}
use Rattle.mmv_layout.specs.Faults.{code_fault, first_below}
use Rattle.mmv_layout.proofs.metrics.kind_fault.Given as goal

abbrev pub invariant-loop-i : goal.invariant-loop-i
invariant-loop-i l = first_below l.i (λ i. code_fault l.words (metric_at l.words i)) ≡ None
