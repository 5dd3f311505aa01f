use Rattle.pcp_outside.specs.Sides.{source_side}
use Rattle.pmcd_client.proofs.Replying.{awaits_unfit}
use Rattle.pmcd_client.proofs.line.Line.await_reply.Goals as goal

pub returns-in-Some-clause-reply : goal.returns-in-Some-clause-reply
returns-in-Some-clause-reply g c =
    awaits_unfit (source_side g.I.Source c.args.reply.now c.receive.new.input) c.args.self.now.replies c.args.turn.now c.in_ok-pdu.pdu c.in-Some.why c.in_ok-pdu.ensures c.in-Some.ensures
