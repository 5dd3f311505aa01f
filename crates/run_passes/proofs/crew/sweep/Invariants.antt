use Rattle.std.proofs.Common.{◌≡◌, length}
use Rattle.fetch_engine.specs.Servers.{IsSeated}
use Rattle.script_runs.specs.Closing.{each_pass}
use Rattle.run_passes.specs.Works.{step_of}
use Rattle.run_passes.specs.Sweeps.{EndedBelow, GoesAt, region_after_step}
use Rattle.run_passes.proofs.crew.sweep.Given as goal

abbrev pub invariant-loop-pass : goal.invariant-loop-pass
invariant-loop-pass l =
    (l.pass-end ≡ length l.fn.crew.items) × IsSeated l.server l.seat.tokens
    × GoesAt l.server l.at (each_pass (region_after_step (step_of l.deed)) 0 l.pass) l.fn.crew.items l.crew.items l.fn.seat.tokens l.seat.tokens
    × EndedBelow l.deed l.pass l.fn.crew.items l.crew.items
