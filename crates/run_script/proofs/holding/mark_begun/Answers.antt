-- One more step marks its region.
use Rattle.std.proofs.Common.{◌≡◌, ℕ, ◌<◌, ◌||◌, IfSome, ap, sym, subst, ◌∙◌}
use Rattle.run_script.specs.declared.script.Line.{Line}
use Rattle.run_script.specs.RecordingSteps.{is_held, begins, is_place}
use Rattle.run_script.proofs.Held.{marks_one, held_more, or_nothing, low_in}
use Rattle.run_script.proofs.holding.mark_begun.Goals as goal
use Rattle.run_script.proofs.holding.mark_begun.Goals.{in-Some, in_default}

pub loop-line-preserved : goal.loop-line-preserved
loop-line-preserved c region =
    let step : ℕ × Line = c.loop-line-item.result in
    let one : is_held c.match-region_begun.held region ≡ (is_held c.loop-line.held region || begins region c.args.image step.1) = elim c.match-region_begun.branch [
      | in-Some w ↦
          let low = subst (λ o. IfSome o (λ r. r < 64)) w.in-Some.is c.region_begun.ensures.bound in
          ap (λ h. is_held h region) w.held-is
          ∙ (marks_one c.loop-line.held w.in-Some.region region (low_in c.loop-line.held c.args.held.now w.in-Some.region c.loop-line.auto.held c.requires.size low)
          ∙ ap (λ b. is_held c.loop-line.held region || b) (sym (c.region_begun.ensures.region region ∙ ap (λ o. is_place o region) w.in-Some.is)))
      | in_default w ↦
          ap (λ h. is_held h region) w.held-is
          ∙ sym (ap (λ b. is_held c.loop-line.held region || b) (c.region_begun.ensures.region region ∙ ap (λ o. is_place o region) w.in_default.is) ∙ or_nothing (is_held c.loop-line.held region))
    ] in
    held_more (λ (s : ℕ × Line). begins region c.args.image s.1) c.args.steps.now c.loop-line.line-index step (is_held c.loop-line.held region) (is_held c.match-region_begun.held region)
    (is_held c.args.held.now region) c.loop-line-test.true c.loop-line-item.is (c.loop-line.invariant region) one
