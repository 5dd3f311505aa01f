-- At first there is no text.
use Rattle.mmv_writer.proofs.Firsts.{key_none}
use Rattle.mmv_writer.proofs.tables.keys_of.Goals as goal

pub loop-text-init : goal.loop-text-init
loop-text-init c = key_none c.new-firsts.result c.new-firsts.ensures.empty
