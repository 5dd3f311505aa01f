-- The seats so far, and those left.
use Rattle.std.proofs.Common.{◌≡◌, ◌++◌}
use Rattle.pm_serving.proofs.served.with_contexts.Given as goal

abbrev pub invariant-loop-seat : goal.invariant-loop-seat
invariant-loop-seat l = l.made.items ++ l.seat-iterator.rest.items ≡ l.fn.seats.items
