-- The steps so far are right.
use Rattle.std.proofs.Common.{◌≡◌, ℕ, ◌<◌, true}
use Rattle.run_script.specs.RecordingSteps.{passes_at, fits_room}
use Rattle.run_script.proofs.holding.count_fitting.Given as goal

abbrev pub invariant-loop-k : goal.invariant-loop-k
invariant-loop-k l = (j : ℕ) → j < l.k → passes_at (fits_room l.script) l.steps j ≡ true
