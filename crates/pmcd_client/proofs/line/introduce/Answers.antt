use Rattle.std.proofs.Common.{[], ◌∷◌}
use Rattle.pcp_outside.specs.Sides.{sink_side}
use Rattle.pdu_codec.specs.declared.pdu.Pdu.TheVariants as pdus
use Rattle.pmcd_client.proofs.One.{sends_first, sends_on}
use Rattle.pmcd_client.proofs.line.introduce.Goals as goal

pub returns-in-Ok : goal.returns-in-Ok
returns-in-Ok g c = sends_on g.L.Sink c.args.out.now c.send.new.out c.send-in-Ok.new.out (pdus.Creds ∷ []) (c.args.asked.now ∷ []) c.send-in-Ok.result c.in-Ok.ensures c.send-in-Ok.ensures

pub returns-in-Err : goal.returns-in-Err
returns-in-Err g c = sends_first (sink_side g.L.Sink c.args.out.now c.send.new.out) (pdus.Creds ∷ []) (c.args.asked.now ∷ []) c.in-Err.fault c.in-Err.ensures
