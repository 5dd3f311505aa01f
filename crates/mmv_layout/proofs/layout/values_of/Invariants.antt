-- The rows so far.
use Rattle.std.proofs.Common.{◌≡◌}
use Rattle.mmv_layout.specs.Entries.{value_at}
use Rattle.mmv_layout.specs.Rows.{list_below, value_row}
use Rattle.mmv_layout.proofs.layout.values_of.Given as goal

abbrev pub invariant-loop-i : goal.invariant-loop-i
invariant-loop-i l = l.rows ≡ list_below l.i (λ i. value_row l.words (value_at l.words i))
