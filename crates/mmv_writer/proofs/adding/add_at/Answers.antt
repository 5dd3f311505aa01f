-- The row at the domain's position takes the instance.
use Rattle.std.proofs.Common.{nat_eq}
use Rattle.mmv_writer.proofs.Kept.{position_at, number_absent, grown_at, grown_keys}
use Rattle.mmv_writer.proofs.adding.add_at.Goals as goal

pub add_to-requires-clause-absent : goal.add_to-requires-clause-absent
add_to-requires-clause-absent c = number_absent c.args.domains.now c.args.rows.now c.args.serial c.args.instance c.requires.keys c.requires.new

pub returns-clause-keys : goal.returns-clause-keys
returns-clause-keys c =
    grown_keys c.args.domains.now c.add_to.new.domains c.args.rows.now c.args.serial c.args.instance c.args.name.items c.args.at c.index-rows-at.result c.add_to.new.instances
    c.requires.keys c.requires.place c.requires.name c.in_ok-add_to.ensures.ok c.in_ok-add_to.ensures.keys

pub returns-clause-ok : goal.returns-clause-ok
returns-clause-ok c =
    let at = position_at (λ row. nat_eq row.serial c.args.serial) c.args.rows.now c.args.at c.requires.place in
    rw c.in_ok-add_to.ensures.ok (grown_at c.args.rows.now c.args.serial c.args.instance c.args.at c.index-rows-at.result at.0 at.1)
