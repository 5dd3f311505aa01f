-- Nothing was found so far.
use Rattle.std.proofs.Common.{◌≡◌}
use Rattle.std.specs.Prelude.{None}
use Rattle.mmv_layout.specs.Entries.{instance_at}
use Rattle.mmv_layout.specs.Faults.{instance_reference_fault, first_below}
use Rattle.mmv_layout.proofs.instances.instances_reference_fault.Given as goal

abbrev pub invariant-loop-i : goal.invariant-loop-i
invariant-loop-i l = first_below l.i (λ i. instance_reference_fault l.words (instance_at l.words i)) ≡ None
