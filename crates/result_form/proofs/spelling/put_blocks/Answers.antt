use Rattle.std.proofs.Common.{arith}
use Rattle.pcp_model.proofs.Payloads.{blocks_next, blocks_length_next}
use Rattle.result_form.proofs.spelling.put_blocks.Goals as goal

pub loop-set-preserved : goal.loop-set-preserved
loop-set-preserved c = record {
  whole = blocks_next c.args.sets.now c.loop-set.set-index c.set-item.result _ _ _ c.loop-set-test.true c.set-item.is c.in_ok-put_set_blocks.ensures.bytes c.loop-set.invariant.whole;
  long = omega (arith, c.in_ok-put_set_blocks.ensures.grows, blocks_length_next c.args.sets.now c.loop-set.set-index c.set-item.result c.loop-set-test.true c.set-item.is);
}
