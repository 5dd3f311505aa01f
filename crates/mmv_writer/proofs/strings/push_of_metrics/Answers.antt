-- The texts of one row more.
use Rattle.std.proofs.Common.{arith}
use Rattle.mmv_writer.specs.Spelling.{texts_of_metric}
use Rattle.mmv_writer.specs.Tables.{texts_behind}
use Rattle.mmv_writer.proofs.Missing.{written_more}
use Rattle.mmv_writer.proofs.strings.push_of_metrics.Goals as goal

pub loop-row-preserved : goal.loop-row-preserved
loop-row-preserved c = written_more (texts_of_metric c.args.version) (texts_behind c.args.texts.now.items) (texts_behind c.loop-row.texts.items) (texts_behind c.push_of_metric.new.texts.items) c.args.rows.now c.loop-row.row-index c.row-item.result (omega arith) c.row-item.is c.loop-row.invariant c.in_ok-push_of_metric.ensures
