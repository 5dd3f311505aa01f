-- The passes behind those that are left are in their places.
use Rattle.std.specs.Prelude.{◌≤◌, length, vec_capacity}
use Rattle.run_passes.proofs.HandPlaces.{Dealing}
use Rattle.run_passes.proofs.dealing.deal_list.Given as goal

abbrev pub invariant-loop-pass : goal.invariant-loop-pass
invariant-loop-pass l = Dealing l.at l.fn.list.items l.list.items l.fn.hands.items l.hands.items × (length l.fn.list.items ≤ vec_capacity l.list)

abbrev pub decreases-loop-pass : goal.decreases-loop-pass
decreases-loop-pass l = goal.left-loop-pass l
