use Rattle.std.proofs.Common.{Some}
use Rattle.pcp_outside.specs.Sides.{source_side, sink_side}
use Rattle.pmcd_client.proofs.One.{stops_unsent}
use Rattle.pmcd_client.proofs.Sent.{asked_so}
use Rattle.pmcd_client.proofs.line.Line.ask.Goals as goal

pub returns-in-Ok-clause-done : goal.returns-in-Ok-clause-done
returns-in-Ok-clause-done g c =
    asked_so (source_side g.I.Source c.args.reply.now c.await_reply.new.reply) (sink_side g.L.Sink c.args.request.now c.send_requests.new.out) c.args.self.now.replies (Some c.args.asked) c.await_reply.result c.await_reply.ensures.few
    c.in-Ok.ensures c.await_reply.ensures.reply

pub returns-in-Err-clause-done : goal.returns-in-Err-clause-done
returns-in-Err-clause-done g c = stops_unsent g.I.Source c.args.reply.now (sink_side g.L.Sink c.args.request.now c.send_requests.new.out) c.args.self.now.replies (Some c.args.asked) c.in-Err.fault c.in-Err.ensures
