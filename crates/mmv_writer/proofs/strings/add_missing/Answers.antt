-- One text more.
use Rattle.std.proofs.Common.{arith, sym}
use Rattle.mmv_writer.proofs.Missing.{missing_none, missing_more}
use Rattle.mmv_writer.proofs.strings.add_missing.Goals as goal

pub loop-text-init : goal.loop-text-init
loop-text-init c = sym (missing_none c.args.strings.now)

pub loop-text-preserved : goal.loop-text-preserved
loop-text-preserved c = missing_more c.args.strings.now c.loop-text.strings c.add.new.self c.args.texts.now c.loop-text.text-index c.text-item.result (omega arith) c.text-item.is c.loop-text.invariant c.in_ok-add.ensures
