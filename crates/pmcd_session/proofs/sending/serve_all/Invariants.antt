-- The PDUs so far were served.
use Rattle.std.proofs.Common.{◌≡◌, ℕ, ◌≤◌, List, ◌++◌, take}
use Rattle.pcp_base.specs.Time.{Moment}
use Rattle.pmcd_session.specs.Serving.{DoesAll}
use Rattle.pmcd_session.proofs.sending.serve_all.Given as goal

abbrev pub invariant-loop-pdu : goal.invariant-loop-pdu
invariant-loop-pdu g l = record {
  moments : List Moment;
  bytes : List ℕ;
  clock_told : g.C.Clock.tells → g.C.Clock.left l.fn.clock ≡ moments ++ g.C.Clock.left l.clock;
  sink_told : g.O.Sink.tells → g.O.Sink.written l.out ≡ g.O.Sink.written l.fn.out ++ bytes;
  does : DoesAll (g.A.Agent.reads l.regions) l.fn.s (take l.pdu-index l.pdus) (record { moments = moments; written = bytes; after = l.s });
  clock_later : g.C.Clock.faults l.fn.clock ≤ g.C.Clock.faults l.clock;
  sink_later : g.O.Sink.faults l.fn.out ≤ g.O.Sink.faults l.out;
  clock_stands : g.C.Clock.faults l.clock ≡ g.C.Clock.faults l.fn.clock;
  sink_stands : g.O.Sink.faults l.out ≡ g.O.Sink.faults l.fn.out;
  here : g.A.Agent.sits l.regions l.s.agent;
}
