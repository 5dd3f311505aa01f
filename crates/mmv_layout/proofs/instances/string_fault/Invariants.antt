-- Nothing was found so far.
use Rattle.std.proofs.Common.{◌≡◌}
use Rattle.std.specs.Prelude.{None}
use Rattle.mmv_layout.specs.Entries.{string_at, is_good_string}
use Rattle.mmv_layout.specs.Faults.{unless, first_below}
use Rattle.mmv_layout.proofs.instances.string_fault.Given as goal

abbrev pub invariant-loop-i : goal.invariant-loop-i
invariant-loop-i l = first_below l.i (λ i. unless (is_good_string l.words i) (string_at l.words i)) ≡ None
