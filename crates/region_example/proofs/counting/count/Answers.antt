use Rattle.std.proofs.Common.{arith}
use Rattle.region_example.proofs.Adds.{counts_all}
use Rattle.region_example.proofs.counting.count.Goals as goal

pub returns-clause-counts : goal.returns-clause-counts
returns-clause-counts g c = counts_all c.args.lines.now c.args.pass.view c.attach_wait-stint.result.view c.slots.new.stint.view c.loop-line.stint.view c.detach.result.view c.loop-line.line-index
    c.attach_wait-stint.ensures.attaches c.slots.ensures.loads c.loop-line.invariant.1 c.loop-line.invariant.2 (omega arith) c.detach.ensures.detaches
