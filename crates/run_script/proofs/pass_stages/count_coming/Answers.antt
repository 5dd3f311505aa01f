-- A step that may come is one more of those that came.
use Rattle.std.proofs.Common.{take, sym, subst, ◌∙◌}
use Rattle.run_script.specs.RecordingSteps.{Tells}
use Rattle.run_script.proofs.Stages.{comes_is, tells_next, came_more}
use Rattle.run_script.proofs.pass_stages.count_coming.Goals as goal

pub returns-then-not-step_on-clause-stages : goal.returns-then-not-step_on-clause-stages
returns-then-not-step_on-clause-stages c = subst (Tells (take c.loop-k.k c.args.steps.now)) (sym (c.step_on.ensures.stays c.if-not-step_on.true)) c.loop-k.invariant.tells

pub loop-k-preserved : goal.loop-k-preserved
loop-k-preserved c =
    let steps = c.args.steps.now in
    let step = c.index-steps-k.result in
    let came = comes_is steps c.loop-k.k step c.loop-k-test.true c.index-steps-k.is ∙ (sym (c.step_on.ensures.came (take c.loop-k.k steps) c.loop-k.invariant.tells) ∙ c.if-not-step_on.false) in record {
      tells = tells_next steps c.loop-k.k step c.step_on.new.doing c.loop-k-test.true c.index-steps-k.is
          (c.step_on.ensures.later (take c.loop-k.k steps) step.0 c.loop-k.invariant.tells c.if-not-step_on.false);
      came = came_more steps c.loop-k.k c.loop-k.invariant.came came;
    }
