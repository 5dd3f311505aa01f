-- Nothing was found so far.
use Rattle.std.proofs.Common.{◌≡◌}
use Rattle.std.specs.Prelude.{None}
use Rattle.mmv_layout.specs.Entries.{instance_at, has_text}
use Rattle.mmv_layout.specs.EntryFields.{name_offset_in_instance}
use Rattle.mmv_layout.specs.Faults.{unless, first_below}
use Rattle.mmv_layout.proofs.instances.instance_name_fault.Given as goal

abbrev pub invariant-loop-i : goal.invariant-loop-i
invariant-loop-i l = first_below l.i (λ i. unless (has_text l.words (name_offset_in_instance (instance_at l.words i))) (name_offset_in_instance (instance_at l.words i))) ≡ None
