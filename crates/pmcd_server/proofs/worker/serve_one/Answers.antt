use Rattle.std.proofs.Common.{refl}
use Rattle.pmcd_server.specs.Turns.{Turn, IsSession}
use Rattle.pmcd_server.proofs.Reported.{is_reported}
use Rattle.pmcd_server.proofs.Chains.{none_served, served_one}
use Rattle.pmcd_server.proofs.worker.serve_one.Goals as goal

pub returns-in_err-input-clause-serves : goal.returns-in_err-input-clause-serves
returns-in_err-input-clause-serves g c =
    let d = g.P.Door in
    let e = c.in_err-input.ensures in
    none_served c.args.server.now d c.from_residual.result c.from_residual.ensures.0 c.args.seat.now c.args.door.now c.next.new.self (e.cause.failed refl) e.left e.given e.reports

pub returns-clause-serves : goal.returns-clause-serves
returns-clause-serves g c =
    let d = g.P.Door in
    let e = c.in_ok-input.ensures in
    let s = c.session-end.ensures in
    let t : Turn = record {
      connection = (g.P.In.Source.left c.in_ok-input.input, g.P.Time.Clock.left c.in_ok-input.time);
      report = record {
        bytes_left = g.P.In.Source.left c.session-end.new.input;
        moments_left = g.P.Time.Clock.left c.session-end.new.clock;
        written = g.P.Out.Sink.written c.session-end.new.out;
        source_faults = g.P.In.Source.faults c.session-end.new.input;
        sink_faults = g.P.Out.Sink.faults c.session-end.new.out;
        clock_faults = g.P.Time.Clock.faults c.session-end.new.clock;
        session_end = c.session-end.result;
      };
    } in
    let is : IsSession c.args.server.now d.tells t c.args.seat.now c.session-end.new.seat =
    is_reported d.tells g.P.In.Source.tells g.P.Out.Sink.tells g.P.Time.Clock.tells g.met.P.Door.told (g.P.In.Source.faults c.in_ok-input.input) (g.P.Out.Sink.faults c.in_ok-input.out) (g.P.Time.Clock.faults c.in_ok-input.time)
    (g.P.Out.Sink.written c.in_ok-input.out) e.fresh t c.args.server.now c.args.seat.now c.session-end.new.seat s.runs s.cause s.completes s.still in
    served_one c.args.server.now d c.ended.result t c.args.seat.now c.session-end.new.seat c.args.door.now c.next.new.self c.ended.new.self
    is e.connection e.reports e.quiet c.ended.ensures.reports c.ended.ensures.unreported c.ended.ensures.left c.ended.ensures.given c.ended.ensures.quiet c.ended.ensures.cause
