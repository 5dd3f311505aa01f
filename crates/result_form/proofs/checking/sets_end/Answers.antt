use Rattle.result_form.proofs.Reaches.{ends_on}
use Rattle.result_form.proofs.checking.sets_end.Goals as goal

pub loop-preserved : goal.loop-preserved
loop-preserved c = record {
  same = ends_on c.args.payload.now c.args.count c.loop.counter c.loop.at c.loop-test.true c.in_ok-at.field-0.next _ c.in_ok-at.ensures.span.0 c.loop.invariant.same;
  within = c.in_ok-at.ensures.within;
}
