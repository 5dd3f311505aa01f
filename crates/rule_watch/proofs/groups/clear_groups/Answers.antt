-- One more group is empty.
use Rattle.std.proofs.Common.{arith}
use Rattle.rule_watch.proofs.GroupValues.{all_empty, empty_more}
use Rattle.rule_watch.proofs.groups.clear_groups.Goals as goal

pub loop-group-preserved : goal.loop-group-preserved
loop-group-preserved c = empty_more c.loop-group.groups c.loop-group.group-index c.clear.new.self (omega arith) c.clear.ensures.items c.loop-group.invariant

pub returns : goal.returns
returns c = all_empty c.loop-group.groups c.loop-group.group-index (omega arith) c.loop-group.invariant
