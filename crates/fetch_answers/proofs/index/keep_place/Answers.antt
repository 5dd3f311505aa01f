-- The place that was kept before, or else this one, is found under the item.
use Rattle.std.proofs.Common.{◌≡◌, ℕ, false, is_some, Option, None, Some, sym, ◌∙◌, refl}
use Rattle.std.specs.Ordering.{nat_cmp}
use Rattle.std.specs.BTreeMap.{get}
use Rattle.fetch_answers.proofs.Indexes.{old_stays, new_found}
use Rattle.fetch_answers.proofs.index.keep_place.Goals as goal

gone : (found : Option ℕ) → is_some found ≡ false → found ≡ None
gone None h = refl
gone (Some place) h = cc

pub returns-then-contains_key : goal.returns-then-contains_key
returns-then-contains_key c other = old_stays c.args.table.now c.args.item c.args.place other (sym c.contains_key.ensures ∙ c.if-contains_key.true)

pub returns : goal.returns
returns c other =
    new_found c.args.table.now c.insert.new.self c.args.item c.args.place other (gone (get nat_cmp c.args.table.now c.args.item) (sym c.contains_key.ensures ∙ c.if-contains_key.false))
    (λ q. c.in_ok-insert.ensures.updates.0 q)
