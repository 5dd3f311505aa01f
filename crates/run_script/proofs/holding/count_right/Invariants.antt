-- The images so far are asked.
use Rattle.std.proofs.Common.{length}
use Rattle.run_script.specs.RecordingSteps.{IsFirst, passes_at, right_with}
use Rattle.run_script.proofs.holding.count_right.Given as goal

abbrev pub invariant-loop-at : goal.invariant-loop-at
invariant-loop-at l = IsFirst (passes_at (right_with l.script l.at) l.steps) (length l.steps) l.count
