-- No metric has the item.
use Rattle.std.proofs.Common.{◌==◌, ◌∙◌, ap, sym}
use Rattle.std.specs.List.{position_or_len}
use Rattle.mmv_writer.proofs.Told.{first_none}
use Rattle.mmv_writer.proofs.lookups.MetricTable.metric_of.Goals as goal

pub returns-in-None-clause-value : goal.returns-in-None-clause-value
returns-in-None-clause-value c =
    first_none (λ metric. metric.item == c.args.item) c.self.inside.rows.now (sym (c.in-None.ensures.value ∙ c.self.invariant c.args.item))
    ∙ ap (position_or_len (λ metric. metric.item == c.args.item)) c.self.view_is
