use Rattle.std.proofs.Common.{sym}
use Rattle.result_form.proofs.Reaches.{pairs_on}
use Rattle.result_form.proofs.reach.pairs_reach.Goals as goal

pub loop-preserved : goal.loop-preserved
loop-preserved c = rw c.max-reach.ensures (pairs_on c.args.payload.now c.args.count c.loop.counter c.loop.at c.loop-test.true c.args.sets_end c.loop.reach c.in_ok-end.end _ (sym c.in_ok-end.ensures.end) c.loop.invariant)
