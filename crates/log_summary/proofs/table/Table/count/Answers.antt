-- The values of its sets are its values as an item.
use Rattle.std.proofs.Common.{fold, sym, ap, ◌∙◌}
use Rattle.log_summary.specs.Tables.{counted}
use Rattle.log_summary.specs.Values.{sets_values}
use Rattle.log_summary.proofs.Viewed.{item_sets}
use Rattle.log_summary.proofs.table.Table.count.Goals as goal

pub returns : goal.returns
returns c =
    c.in_ok-count_sets.ensures
    ∙ (λ i. fold counted c.args.self.now (sets_values c.args.meta.now (c.stamp.ensures i) (c.sets.ensures i)))
    ∙ ap (fold counted c.args.self.now) (sym (item_sets c.args.meta.now c.args.read.now))
