use Rattle.pdu_codec.proofs.Loops.{parts_on}
use Rattle.pdu_codec.proofs.lists.parts_at.Goals as goal

pub loop-head-preserved : goal.loop-head-preserved
loop-head-preserved c = record {
  all = rw c.in_ok-push.ensures.ok (parts_on c.loop-head.parts c.args.bytes.now c.args.heads.now c.loop-head.head-index c.loop-head.at c.head-item.result (c.in_ok-part.part, c.in_ok-part.next) _ c.loop-head-test.true c.head-item.is c.in_ok-part.ensures.part c.loop-head.invariant.all);
  inside = c.in_ok-part.ensures.within;
}
