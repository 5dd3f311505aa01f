use Rattle.std.proofs.Common.{◌≤◌, length}
use Rattle.fetch_engine.specs.Servers.{IsSeated}
use Rattle.run_passes.specs.Openings.{AreWaiting, SeesTheSame}
use Rattle.run_passes.proofs.Returning.{AreLastFrom}
use Rattle.run_passes.proofs.beginning.give_back.Given as goal

abbrev pub invariant-loop-list : goal.invariant-loop-list
invariant-loop-list l =
    IsSeated l.server l.seat.tokens × (length l.passes.items ≤ 64) × AreWaiting l.server l.passes.items l.seat.tokens × SeesTheSame l.fn.seat.tokens l.seat.tokens
    × AreLastFrom (length l.passes.items) l.seat.tokens

abbrev pub decreases-loop-list : goal.decreases-loop-list
decreases-loop-list l = goal.left-loop-list l
