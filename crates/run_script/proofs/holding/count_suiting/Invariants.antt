-- The steps so far are right.
use Rattle.std.proofs.Common.{◌≡◌, ℕ, ◌<◌, true}
use Rattle.run_script.specs.RecordingSteps.{passes_at, suits_image}
use Rattle.run_script.proofs.holding.count_suiting.Given as goal

abbrev pub invariant-loop-k : goal.invariant-loop-k
invariant-loop-k l = (j : ℕ) → j < l.k → passes_at (suits_image l.script l.at) l.steps j ≡ true
