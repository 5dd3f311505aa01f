use Rattle.pdu_codec.proofs.Loops.{many_on}
use Rattle.pdu_codec.proofs.lists.many.Goals as goal

pub loop-preserved : goal.loop-preserved
loop-preserved g c = record {
  all = rw c.in_ok-push.ensures.ok (many_on g.P.Part.reading c.loop.items c.args.bytes.now c.args.count c.loop.counter c.loop.at (c.in_ok-item.item, c.in_ok-item.next) _ c.loop-test.true c.in_ok-item.ensures.part c.loop.invariant.all);
  inside = c.in_ok-item.ensures.within;
}
