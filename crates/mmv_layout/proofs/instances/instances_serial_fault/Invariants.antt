-- Nothing was found so far.
use Rattle.std.proofs.Common.{◌≡◌}
use Rattle.std.specs.Prelude.{None}
use Rattle.mmv_layout.specs.EntryFields.{number_offset_in_instance, number_in_instance}
use Rattle.mmv_layout.specs.Entries.{instance_at, is_instance_number}
use Rattle.mmv_layout.specs.Faults.{unless, first_below}
use Rattle.mmv_layout.proofs.instances.instances_serial_fault.Given as goal

abbrev pub invariant-loop-i : goal.invariant-loop-i
invariant-loop-i l = first_below l.i (λ i. unless (is_instance_number (number_in_instance l.words (instance_at l.words i))) (number_offset_in_instance (instance_at l.words i))) ≡ None
