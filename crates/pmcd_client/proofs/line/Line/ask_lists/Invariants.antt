use Rattle.std.proofs.Common.{take, drop}
use Rattle.pcp_outside.specs.Sides.{source_side, sink_side}
use Rattle.pmcd_client.proofs.Looping.{IsListing}
use Rattle.pmcd_client.proofs.line.Line.ask_lists.Given as goal

abbrev pub invariant-loop-indom : goal.invariant-loop-indom
invariant-loop-indom g l =
    IsListing (source_side g.I.Source l.fn.reply l.reply) (sink_side g.L.Sink l.fn.request l.request) l.fn.self.replies l.self.replies l.indoms (take l.indom-index l.indoms) (drop l.indom-index l.indoms) l.lists
