use Rattle.std.specs.Prelude.{[]}
use Rattle.pmcd_session.specs.Replies.{reply_bytes}
use Rattle.pmcd_session.proofs.Asking.{bytes_for, halt_ends, sent_serves, sent_written, writable}
use Rattle.pmcd_session.proofs.Quiet.{halt_quiet, sent_quiet}
use Rattle.pmcd_session.proofs.Writings.{halt_other, none_written}
use Rattle.pmcd_session.proofs.sending.serve_one.Goals as goal

pub returns-in-Err-clause-done : goal.returns-in-Err-clause-done
returns-in-Err-clause-done g c =
    let d = c.in-Err.ensures.done in (
      d.0,
      [],
      d.1,
      (λ tells. none_written c.end_of.result (g.O.Sink.written c.args.out.now) (halt_other c.in-Err.halt c.end_of.result c.end_of.ensures)),
      halt_ends (g.A.Agent.reads c.args.regions.now) (g.A.Agent.loads c.args.regions.now) c.args.s.now c.reply_to.new.s c.args.pdu.now d.0 c.in-Err.halt c.end_of.result c.end_of.ensures d.2,
    )

pub send-requires : goal.send-requires
send-requires g c =
    let d = c.in-Ok-Some.ensures.done in
    writable (g.A.Agent.reads c.args.regions.now) c.args.s.now c.reply_to.new.s c.args.pdu.now d.0 c.in-Ok-Some.field-0 c.in-Ok-Some.reply c.in-Ok-Some.field-0-is d.2

pub returns-clause-done : goal.returns-clause-done
returns-clause-done g c =
    let d = c.in-Ok-Some.ensures.done in
    let bytes = reply_bytes c.in-Ok-Some.reply in (
      d.0,
      bytes_for c.send.result bytes,
      d.1,
      (λ tells. sent_written c.send.result (g.O.Sink.written c.args.out.now) (g.O.Sink.written c.send.new.out) bytes c.send.ensures.ends (c.send.ensures.written tells) (c.send.ensures.refused tells)),
      sent_serves (g.A.Agent.reads c.args.regions.now) (g.A.Agent.loads c.args.regions.now) c.args.s.now c.reply_to.new.s c.args.pdu.now d.0 c.in-Ok-Some.field-0 c.in-Ok-Some.reply c.send.result c.in-Ok-Some.field-0-is d.2 c.in-Ok-Some.ensures.loads c.send.ensures.ends,
    )

pub returns-in-Err-clause-quiet : goal.returns-in-Err-clause-quiet
returns-in-Err-clause-quiet g c =
    halt_quiet (Unit {0}) c.end_of.result c.in-Err.halt (g.C.Clock.faults c.args.clock.now) (g.C.Clock.faults c.reply_to.new.clock) (g.O.Sink.faults c.args.out.now) c.end_of.ensures c.in-Err.ensures.still

pub returns-clause-quiet : goal.returns-clause-quiet
returns-clause-quiet g c =
    sent_quiet c.send.result (g.C.Clock.faults c.args.clock.now) (g.C.Clock.faults c.reply_to.new.clock) (g.O.Sink.faults c.args.out.now) (g.O.Sink.faults c.send.new.out) c.in-Ok-Some.ensures.quiet c.send.ensures.quiet c.send.ensures.still
