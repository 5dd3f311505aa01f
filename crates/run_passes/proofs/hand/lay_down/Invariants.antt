-- The writers behind those that are left are laid down.
use Rattle.std.specs.Prelude.{◌≡◌, length}
use Rattle.run_passes.proofs.Laying.{LaidFrom}
use Rattle.run_passes.proofs.hand.lay_down.Given as goal

abbrev pub invariant-loop-writer : goal.invariant-loop-writer
invariant-loop-writer l = (length l.passes.items ≡ length l.server) × LaidFrom l.server l.number l.fn.writers.items l.writers.items l.passes.items

abbrev pub decreases-loop-writer : goal.decreases-loop-writer
decreases-loop-writer l = goal.left-loop-writer l
