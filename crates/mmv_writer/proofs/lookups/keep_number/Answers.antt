-- What was kept stays, and a new number is put in.
use Rattle.std.proofs.Common.{◌≡◌, rules, cond, true, false, is_some, Some}
use Rattle.std.specs.Ordering.{int_eq, int_cmp}
use Rattle.std.specs.BTreeMap.{get}
use Rattle.mmv_writer.proofs.Keeping.{number_there, number_new}
use Rattle.mmv_writer.proofs.lookups.keep_number.Goals as goal

pub returns-then-contains_key : goal.returns-then-contains_key
returns-then-contains_key c =
    let some : is_some (get int_cmp c.args.members.now c.args.id.now) ≡ true = search rules in
    number_there c.args.members.now c.args.id.now c.args.at some

pub returns : goal.returns
returns c =
    let none : is_some (get int_cmp c.args.members.now c.args.id.now) ≡ false = search rules in
    number_new c.args.members.now c.insert.new.self c.args.id.now c.args.at none
    (λ q. let changed : get int_cmp c.insert.new.self q ≡ cond (int_eq c.args.id.now q) (Some c.args.at) (get int_cmp c.args.members.now q) = search rules in changed)
