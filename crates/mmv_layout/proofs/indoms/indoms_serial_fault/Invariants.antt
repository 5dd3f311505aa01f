-- Nothing was found so far.
use Rattle.std.proofs.Common.{◌≡◌}
use Rattle.std.specs.Prelude.{None}
use Rattle.mmv_layout.specs.Fields.{number32}
use Rattle.mmv_layout.specs.Entries.{indom_at, is_serial}
use Rattle.mmv_layout.specs.Faults.{unless, first_below}
use Rattle.mmv_layout.proofs.indoms.indoms_serial_fault.Given as goal

abbrev pub invariant-loop-i : goal.invariant-loop-i
invariant-loop-i l = first_below l.i (λ i. unless (is_serial (number32 l.words (indom_at l.words i))) (indom_at l.words i)) ≡ None
