use Rattle.pdu_stream.proofs.Pieces.{goes_on_from}
use Rattle.pdu_stream.proofs.splitting.split.Goals as goal

pub loop-at-preserved : goal.loop-at-preserved
loop-at-preserved c = goes_on_from c.args.bytes.now c.loop-at.pdus c.push.new.self c.in_ok-copy_of.field-0 c.loop-at.at c.in-Whole.size c.loop-at.invariant c.in-Whole.ensures c.in_ok-copy_of.ensures c.in_ok-push.ensures.ok
