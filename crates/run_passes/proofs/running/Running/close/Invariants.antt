use Rattle.std.proofs.Common.{length}
use Rattle.fetch_engine.specs.Servers.{IsSeated}
use Rattle.run_passes.proofs.Finals.{ClosedFrom}
use Rattle.run_passes.proofs.running.Running.close.Given as goal

abbrev pub invariant-loop-crew : goal.invariant-loop-crew
invariant-loop-crew l = IsSeated l.server l.seat.tokens × ClosedFrom l.server (length l.crews.items) l.fn.self.crews.items l.crews.items l.fn.seat.tokens l.seat.tokens

abbrev pub decreases-loop-crew : goal.decreases-loop-crew
decreases-loop-crew l = goal.left-loop-crew l
