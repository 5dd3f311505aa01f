-- Each pass has run its own ones of the steps so far.
use Rattle.std.specs.Prelude.{◌≤◌, take}
use Rattle.run_passes.specs.Hands.{ArePresent, AreWriters, HaveRun, StayAway}
use Rattle.run_passes.proofs.hand.run_steps.Given as goal

abbrev pub invariant-loop-step : goal.invariant-loop-step
invariant-loop-step g l =
    (l.taken ≤ l.step-index) × AreWriters l.server l.number l.writers.items × ArePresent l.script l.server l.number l.writers.items
    × StayAway l.fn.writers.items l.writers.items × HaveRun l.script l.server l.number (take l.step-index l.script.steps) l.fn.writers.items l.writers.items
