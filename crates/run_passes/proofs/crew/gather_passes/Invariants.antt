use Rattle.fetch_engine.specs.Servers.{IsSeated}
use Rattle.run_passes.specs.Openings.{idle_crew}
use Rattle.run_passes.proofs.Gathering.{Gathering}
use Rattle.run_passes.proofs.crew.gather_passes.Given as goal

abbrev pub invariant-loop-pass : goal.invariant-loop-pass
invariant-loop-pass l = IsSeated l.server l.seat.tokens × Gathering l.server l.at (idle_crew l.fn.passes.items) (idle_crew l.passes.items) l.fn.seat.tokens l.seat.tokens

abbrev pub decreases-loop-pass : goal.decreases-loop-pass
decreases-loop-pass l = goal.left-loop-pass l
