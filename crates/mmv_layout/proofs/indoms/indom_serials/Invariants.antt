-- The serials so far are in the set.
use Rattle.std.proofs.Common.{◌≡◌, ℕ}
use Rattle.std.specs.BTreeSet.{contains}
use Rattle.std.specs.Ordering.{nat_cmp}
use Rattle.mmv_layout.specs.Below.{some_below}
use Rattle.mmv_layout.specs.Entries.{has_serial}
use Rattle.mmv_layout.proofs.indoms.indom_serials.Given as goal

abbrev pub invariant-loop-i : goal.invariant-loop-i
invariant-loop-i l = (serial : ℕ) → contains nat_cmp l.serials serial ≡ some_below l.i (has_serial l.words serial)
