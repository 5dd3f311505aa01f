-- One text more is looked up.
use Rattle.mmv_writer.proofs.Firsts.{key_put}
use Rattle.mmv_writer.proofs.tables.add_key.Goals as goal

pub returns : goal.returns
returns c = key_put c.args.firsts.now c.insert.new.self c.in_ok-key.key c.in_ok-insert.ensures.entries c.requires
