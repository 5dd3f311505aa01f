-- The rows so far.
use Rattle.std.proofs.Common.{◌≡◌}
use Rattle.mmv_layout.specs.Entries.{indom_at}
use Rattle.mmv_layout.specs.Rows.{list_below, indom_row}
use Rattle.mmv_layout.proofs.layout.indoms_of.Given as goal

abbrev pub invariant-loop-i : goal.invariant-loop-i
invariant-loop-i l = l.rows ≡ list_below l.i (λ i. indom_row l.words (indom_at l.words i))
