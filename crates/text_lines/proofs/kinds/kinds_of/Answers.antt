-- The kind of one metric more.
use Rattle.std.proofs.Common.{arith}
use Rattle.text_lines.proofs.KindRows.{kind_more}
use Rattle.text_lines.proofs.kinds.kinds_of.Goals as goal

pub loop-row-preserved : goal.loop-row-preserved
loop-row-preserved c item = kind_more item c.args.metrics.now c.loop-row.row-index c.row-item.result _ _ (omega arith) c.row-item.is (c.loop-row.invariant item) (c.in_ok-keep_kind.ensures item)
