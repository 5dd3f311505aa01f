-- What was kept before, or else the part, is found by its domain.
use Rattle.std.proofs.Common.{sym, ◌∙◌}
use Rattle.std.specs.Ordering.{nat_cmp}
use Rattle.std.specs.BTreeMap.{get}
use Rattle.profile_filter.proofs.Parts.{gone, old_stays, new_found}
use Rattle.profile_filter.proofs.choices.keep_part.Goals as goal

pub returns-then-contains_key : goal.returns-then-contains_key
returns-then-contains_key c indom = old_stays c.args.table.now c.args.part.now indom (sym c.contains_key.ensures ∙ c.if-contains_key.true)

pub returns : goal.returns
returns c indom =
    new_found c.args.table.now c.insert.new.self c.args.part.now c.in_ok-made.made indom (gone (get nat_cmp c.args.table.now c.args.part.now.indom) (sym c.contains_key.ensures ∙ c.if-contains_key.false))
    c.in_ok-made.ensures c.in_ok-insert.ensures.updates.0
