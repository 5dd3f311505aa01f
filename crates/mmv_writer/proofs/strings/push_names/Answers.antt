-- The name of one instance more.
use Rattle.std.proofs.Common.{arith}
use Rattle.mmv_writer.specs.Spelling.{texts_of_name}
use Rattle.mmv_writer.specs.Tables.{texts_behind}
use Rattle.mmv_writer.proofs.Missing.{written_more}
use Rattle.mmv_writer.proofs.strings.push_names.Goals as goal

pub loop-instance-preserved : goal.loop-instance-preserved
loop-instance-preserved c = written_more (λ instance. texts_of_name c.args.version instance.1) (texts_behind c.args.texts.now.items) (texts_behind c.loop-instance.texts.items) (texts_behind c.push_name.new.texts.items) c.args.instances.now c.loop-instance.instance-index c.instance-item.result (omega arith) c.instance-item.is c.loop-instance.invariant c.in_ok-push_name.ensures
