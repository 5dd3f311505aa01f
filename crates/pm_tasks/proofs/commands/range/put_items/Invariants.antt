-- The text so far, with that of the items that are left, is the whole text.
use Rattle.std.proofs.Common.{◌≡◌, ◌++◌, drop}
use Rattle.pm_print.specs.Items.{items_text}
use Rattle.pm_tasks.proofs.commands.range.put_items.Given as goal

abbrev pub invariant-loop-item : goal.invariant-loop-item
invariant-loop-item l = l.initial.out.items ++ items_text l.meta l.items ≡ l.out.items ++ items_text l.meta (drop l.item-index l.items)
