-- Nothing was found so far.
use Rattle.std.proofs.Common.{◌≡◌}
use Rattle.std.specs.Prelude.{None}
use Rattle.mmv_layout.specs.Entries.{indom_at}
use Rattle.mmv_layout.specs.Faults.{indom_reference_fault, first_below}
use Rattle.mmv_layout.proofs.indoms.indoms_reference_fault.Given as goal

abbrev pub invariant-loop-i : goal.invariant-loop-i
invariant-loop-i l = first_below l.i (λ i. indom_reference_fault l.words (indom_at l.words i)) ≡ None
