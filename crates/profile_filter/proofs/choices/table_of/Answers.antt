-- One part more was kept.
use Rattle.std.proofs.Common.{arith}
use Rattle.profile_filter.proofs.Parts.{parts_step}
use Rattle.profile_filter.proofs.choices.table_of.Goals as goal

pub loop-part-preserved : goal.loop-part-preserved
loop-part-preserved c = parts_step c.loop-part.table c.keep_part.new.table c.args.parts.now c.loop-part.part-index c.part-item.result c.part-item.result (omega arith) c.part-item.is c.loop-part.invariant c.in_ok-keep_part.ensures
