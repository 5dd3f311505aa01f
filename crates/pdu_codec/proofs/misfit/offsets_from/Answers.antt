use Rattle.std.proofs.Common.{sym, arith}
use Rattle.pdu_codec.proofs.Walks.{offsets_on}
use Rattle.pdu_codec.proofs.misfit.offsets_from.Goals as goal

pub loop-preserved : goal.loop-preserved
loop-preserved c = record {
  all = rw c.led-blocks.ensures (offsets_on c.args.payload.now c.args.end c.args.count c.loop.counter c.loop.at c.in_ok-offset.offset c.loop.blocks _ c.loop-test.true (sym c.in_ok-offset.ensures.offset) c.loop.invariant.all);
  here = omega (arith, c.loop.invariant.here);
  inside = c.in_ok-offset.ensures.within;
}
