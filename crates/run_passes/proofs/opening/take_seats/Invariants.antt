-- Each seat has the passes of one hand; those hands, and those that are left, are all.
use Rattle.std.specs.Prelude.{◌≡◌, ◌++◌}
use Rattle.std.specs.Vec.Iter.{into_iter_items}
use Rattle.run_passes.specs.Makings.{lists_of}
use Rattle.run_passes.proofs.Openings.{tokens_of}
use Rattle.run_passes.proofs.opening.take_seats.Given as goal

abbrev pub invariant-loop-hand : goal.invariant-loop-hand
invariant-loop-hand l = (tokens_of l.seats.items ≡ lists_of l.yielded) × (l.fn.hands.items ≡ l.yielded ++ into_iter_items l.hand-iterator)
