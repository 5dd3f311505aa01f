use Rattle.std.proofs.Common.{sym}
use Rattle.pdu_codec.proofs.Walks.{sets_on}
use Rattle.pdu_codec.proofs.misfit.sets_at.Goals as goal

pub loop-i-preserved : goal.loop-i-preserved
loop-i-preserved c = record {
  all = sets_on c.args.payload.now c.args.count c.loop-i.i c.loop-i.sets c.in_ok-sets.sets _ c.loop-i-test.true (sym c.in_ok-sets.ensures.sets) c.loop-i.invariant.all;
  inside = c.in_ok-sets.ensures.within;
}
