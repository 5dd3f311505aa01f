-- Nothing was found so far.
use Rattle.std.proofs.Common.{◌≡◌}
use Rattle.std.specs.Prelude.{None}
use Rattle.mmv_layout.specs.Contents.{is_aligned, offset_field_in}
use Rattle.mmv_layout.specs.Faults.{unless, first_below}
use Rattle.mmv_layout.proofs.sections.offset_fault.Given as goal

abbrev pub invariant-loop-i : goal.invariant-loop-i
invariant-loop-i l = first_below l.i (λ i. unless (is_aligned l.words i) (offset_field_in i)) ≡ None
