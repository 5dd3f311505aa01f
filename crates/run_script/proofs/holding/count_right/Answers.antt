-- One image more.
use Rattle.run_script.proofs.Refusals.{right_more_at}
use Rattle.run_script.proofs.holding.count_right.Goals as goal

pub loop-at-preserved : goal.loop-at-preserved
loop-at-preserved c =
    right_more_at c.args.script.now c.loop-at.at c.args.steps.now c.loop-at.count c.count_suiting-count.result c.loop-at.invariant c.count_suiting-count.ensures
