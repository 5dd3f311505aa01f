-- The passes so far are taken up, and those that are left lie there.
use Rattle.std.specs.Prelude.{◌≡◌, ◌≤◌, ◌++◌, None, drop, length, map, replicate, take, vec_capacity}
use Rattle.run_passes.specs.Hands.{writer_of}
use Rattle.run_passes.proofs.hand.take_up.Given as goal

abbrev pub invariant-loop-at : goal.invariant-loop-at
invariant-loop-at l =
    (l.at-end ≡ length l.fn.passes.items) × (length l.fn.passes.items ≤ vec_capacity l.writers)
    × (l.writers.items ≡ map writer_of (take l.at l.fn.passes.items))
    × (l.passes.items ≡ replicate l.at None ++ drop l.at l.fn.passes.items)
