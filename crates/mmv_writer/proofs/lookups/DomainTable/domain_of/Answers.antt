-- No domain has the serial.
use Rattle.std.proofs.Common.{◌≡◌, ◌==◌, ◌∙◌, ap, None}
use Rattle.std.specs.List.{position}
use Rattle.std.specs.Ordering.{nat_cmp}
use Rattle.std.specs.BTreeMap.{get}
use Rattle.mmv_writer.specs.Spelling.{domain_of}
use Rattle.mmv_writer.proofs.Told.{told_none, first_none}
use Rattle.mmv_writer.proofs.lookups.DomainTable.domain_of.Goals as goal

pub returns-in-None-clause-value : goal.returns-in-None-clause-value
returns-in-None-clause-value c =
    let none : position (λ row. row.serial == c.args.serial) c.self.inside.rows.now ≡ None =
    told_none c.self.inside.rows.now (get nat_cmp c.self.inside.places c.args.serial) (position (λ row. row.serial == c.args.serial) c.self.inside.rows.now) (c.self.invariant.0 c.args.serial) c.in-None.ensures.value in
    first_none (λ row. row.serial == c.args.serial) c.self.inside.rows.now none ∙ ap (λ rows. domain_of rows c.args.serial) c.self.view_is
