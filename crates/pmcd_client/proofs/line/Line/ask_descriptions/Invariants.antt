use Rattle.std.specs.Vec.Iter.{into_iter_items}
use Rattle.pcp_outside.specs.Sides.{source_side, sink_side}
use Rattle.pmcd_client.proofs.Looping.{IsTelling}
use Rattle.pmcd_client.proofs.line.Line.ask_descriptions.Given as goal

abbrev pub invariant-loop-pmid : goal.invariant-loop-pmid
invariant-loop-pmid g l =
    IsTelling (source_side g.I.Source l.fn.reply l.reply) (sink_side g.L.Sink l.fn.request l.request) l.fn.self.replies l.self.replies l.fn.metrics.items l.yielded (into_iter_items l.pmid-iterator) l.told
