-- Nothing was found so far.
use Rattle.std.proofs.Common.{◌≡◌}
use Rattle.std.specs.Prelude.{None}
use Rattle.mmv_layout.specs.Entries.{value_at}
use Rattle.mmv_layout.specs.Faults.{value_reference_fault, first_below}
use Rattle.mmv_layout.proofs.values.values_reference_fault.Given as goal

abbrev pub invariant-loop-i : goal.invariant-loop-i
invariant-loop-i l = first_below l.i (λ i. value_reference_fault l.words (value_at l.words i)) ≡ None
