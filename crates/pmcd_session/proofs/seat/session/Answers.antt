use Rattle.std.proofs.Common.{subst}
use Rattle.fetch_engine.specs.Servers.{Seated}
use Rattle.pmcd_session.specs.Agents.{LoadsRegions, ReadsRegions}
use Rattle.pmcd_session.specs.Sessions.{Runs}
use Rattle.pcp_outside.specs.Sides.{source_side, sink_side, clock_side}
use Rattle.pmcd_session.proofs.Completing.{completes}
use Rattle.pmcd_session.proofs.seat.session.Goals as goal

pub returns-clause-runs : goal.returns-clause-runs
returns-clause-runs g c =
    subst (λ (a : Seated). Runs (ReadsRegions c.args.server.now) LoadsRegions a c.converse.new.s.agent (source_side g.I.Source c.args.input.now c.converse.new.input) (sink_side g.O.Sink c.args.out.now c.converse.new.out)
    (clock_side g.C.Clock c.args.clock.now c.converse.new.clock) c.converse.result) c.seat.view_is c.converse.ensures.runs

pub returns-clause-completes : goal.returns-clause-completes
returns-clause-completes g c =
    completes (ReadsRegions c.args.server.now) LoadsRegions c.seat.inside.standing.agent c.converse.new.s.agent (source_side g.I.Source c.args.input.now c.converse.new.input) (sink_side g.O.Sink c.args.out.now c.converse.new.out)
    (clock_side g.C.Clock c.args.clock.now c.converse.new.clock) c.converse.result c.converse.ensures.runs c.converse.ensures.cause
