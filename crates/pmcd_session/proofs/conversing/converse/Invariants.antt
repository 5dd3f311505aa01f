-- The session goes on.
use Rattle.std.proofs.Common.{◌-◌}
use Rattle.pcp_outside.specs.Sides.{source_side, sink_side, clock_side}
use Rattle.pmcd_session.specs.Sessions.{AllStand}
use Rattle.pmcd_session.proofs.Talks.{Talks}
use Rattle.pmcd_session.proofs.conversing.converse.Given as goal

abbrev pub invariant-loop-taken : goal.invariant-loop-taken
invariant-loop-taken g l = record {
  talks : Talks (g.A.Agent.reads l.regions) g.I.Source g.O.Sink g.C.Clock l.fn.s.agent l.fn.input l.input l.fn.out l.out l.fn.clock l.clock l.taken l.stream l.s;
  stand : AllStand (source_side g.I.Source l.fn.input l.input) (sink_side g.O.Sink l.fn.out l.out) (clock_side g.C.Clock l.fn.clock l.clock);
  here : g.A.Agent.sits l.regions l.s.agent;
}

abbrev pub decreases-loop-taken : goal.decreases-loop-taken
decreases-loop-taken g l = 1099511627776 - l.taken
