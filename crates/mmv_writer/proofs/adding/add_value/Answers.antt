-- The value's item and instance stand beside its row.
use Rattle.mmv_writer.proofs.Kept.{value_kept}
use Rattle.mmv_writer.proofs.adding.add_value.Goals as goal

pub returns-clause-keys : goal.returns-clause-keys
returns-clause-keys c =
    rw c.in_ok-push.ensures.ok (value_kept c.args.values.now c.insert.new.self c.args.rows.now c.args.row c.requires.keys c.in_default.ensures.updates.0)
