-- The steps so far are told.
use Rattle.std.proofs.Common.{◌≡◌, ℕ, take}
use Rattle.std.specs.Prelude.{◌||◌}
use Rattle.std.specs.List.{list_any}
use Rattle.run_script.specs.declared.script.Line.{Line}
use Rattle.run_script.specs.RecordingSteps.{is_held, begins}
use Rattle.run_script.proofs.holding.mark_begun.Given as goal

abbrev pub invariant-loop-line : goal.invariant-loop-line
invariant-loop-line l = (region : ℕ) → is_held l.held region ≡ (is_held l.initial.held region || list_any (λ (step : ℕ × Line). begins region l.image step.1) (take l.line-index l.steps))
