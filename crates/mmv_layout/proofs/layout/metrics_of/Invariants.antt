-- The rows so far.
use Rattle.std.proofs.Common.{◌≡◌}
use Rattle.mmv_layout.specs.Entries.{metric_at}
use Rattle.mmv_layout.specs.Rows.{list_below, metric_row}
use Rattle.mmv_layout.proofs.layout.metrics_of.Given as goal

abbrev pub invariant-loop-i : goal.invariant-loop-i
invariant-loop-i l = l.rows ≡ list_below l.i (λ i. metric_row l.words (metric_at l.words i))
