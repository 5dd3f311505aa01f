-- The table tells of the steps so far, all of which may come.
use Rattle.std.proofs.Common.{◌≡◌, ℕ, ◌<◌, true, take}
use Rattle.run_script.specs.RecordingSteps.{Tells, comes}
use Rattle.run_script.proofs.pass_stages.count_coming.Given as goal

abbrev pub invariant-loop-k : goal.invariant-loop-k
invariant-loop-k l = record { tells : Tells (take l.k l.steps) l.doing; came : (j : ℕ) → j < l.k → comes l.steps j ≡ true }
