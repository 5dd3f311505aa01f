use Rattle.fetch_engine.specs.Servers.{IsSeated}
use Rattle.run_passes.proofs.Gathering.{Gathering}
use Rattle.run_passes.proofs.crew.gather_all.Given as goal

abbrev pub invariant-loop-worker : goal.invariant-loop-worker
invariant-loop-worker l = IsSeated l.server l.seat.tokens × Gathering l.server l.at l.fn.crew.items l.crew.items l.fn.seat.tokens l.seat.tokens

abbrev pub decreases-loop-worker : goal.decreases-loop-worker
decreases-loop-worker l = goal.left-loop-worker l
