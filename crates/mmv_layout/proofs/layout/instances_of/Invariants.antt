-- The rows so far.
use Rattle.std.proofs.Common.{◌≡◌}
use Rattle.mmv_layout.specs.Entries.{run_at}
use Rattle.mmv_layout.specs.Rows.{list_below, instance_row}
use Rattle.mmv_layout.proofs.layout.instances_of.Given as goal

abbrev pub invariant-loop-k : goal.invariant-loop-k
invariant-loop-k l = l.rows ≡ list_below l.k (λ k. instance_row l.words (run_at l.words l.domain k))
