-- Nothing was found so far.
use Rattle.std.proofs.Common.{◌≡◌}
use Rattle.std.specs.Prelude.{None}
use Rattle.mmv_layout.specs.Contents.{has_good_section}
use Rattle.mmv_layout.specs.Faults.{unless, bad_type, first_below}
use Rattle.mmv_layout.proofs.sections.section_fault.Given as goal

abbrev pub invariant-loop-i : goal.invariant-loop-i
invariant-loop-i l = first_below l.i (λ i. unless (has_good_section l.words i) (bad_type l.words i)) ≡ None
