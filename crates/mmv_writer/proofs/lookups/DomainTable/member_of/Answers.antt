-- What is told of the domain with the serial.
use Rattle.std.proofs.Common.{◌≡◌, ◌≤◌, ◌==◌, ◌∙◌, ap, refl, arith, None}
use Rattle.std.specs.List.{position}
use Rattle.std.specs.Ordering.{nat_cmp}
use Rattle.std.specs.BTreeMap.{get}
use Rattle.mmv_writer.specs.Offsets.{instances_in}
use Rattle.mmv_writer.specs.Spelling.{member_of}
use Rattle.mmv_writer.proofs.Told.{Told, told_none, told_some, no_member, member_told, member_near}
use Rattle.mmv_writer.proofs.lookups.DomainTable.member_of.Goals as goal

pub returns-in-None-clause-value : goal.returns-in-None-clause-value
returns-in-None-clause-value c =
    let none : position (λ row. row.serial == c.args.serial) c.self.inside.rows.now ≡ None =
    told_none c.self.inside.rows.now (get nat_cmp c.self.inside.places c.args.serial) (position (λ row. row.serial == c.args.serial) c.self.inside.rows.now) (c.self.invariant.0 c.args.serial) c.in-None.ensures.value in
    no_member c.self.inside.rows.now c.args.serial c.args.id.now none ∙ ap (λ rows. member_of rows c.args.serial c.args.id.now) c.self.view_is

pub returns-in-Some-clause-value : goal.returns-in-Some-clause-value
returns-in-Some-clause-value c =
    let t : Told c.self.inside.rows.now c.args.serial c.in-Some.place.now =
    told_some c.self.inside.rows.now c.args.serial (get nat_cmp c.self.inside.places c.args.serial) (position (λ row. row.serial == c.args.serial) c.self.inside.rows.now) c.in-Some.place.now (c.self.invariant.0 c.args.serial) refl c.in-Some.ensures.value in
    c.member_in.ensures ∙ member_told c.self.inside.rows.now c.args.serial c.args.id.now c.in-Some.place.now t ∙ ap (λ rows. member_of rows c.args.serial c.args.id.now) c.self.view_is

pub returns-in-Some-clause-bound : goal.returns-in-Some-clause-bound
returns-in-Some-clause-bound c =
    let t : Told c.self.inside.rows.now c.args.serial c.in-Some.place.now =
    told_some c.self.inside.rows.now c.args.serial (get nat_cmp c.self.inside.places c.args.serial) (position (λ row. row.serial == c.args.serial) c.self.inside.rows.now) c.in-Some.place.now (c.self.invariant.0 c.args.serial) refl c.in-Some.ensures.value in
    let near : c.member_in.result ≤ instances_in c.self.inside.rows.now = member_near c.self.inside.rows.now c.args.serial c.args.id.now c.in-Some.place.now c.member_in.result t c.member_in.ensures in
    omega (arith, ap instances_in c.self.view_is, c.requires)
