-- The serial of the row at the item's position.
use Rattle.std.proofs.Common.{◌∙◌, ap, sym, Some, None}
use Rattle.std.specs.List.{slice_get}
use Rattle.mmv_writer.proofs.Told.{get_at, past, serial_told}
use Rattle.mmv_writer.proofs.lookups.MetricTable.serial_of.Goals as goal

pub returns-in-None : goal.returns-in-None
returns-in-None c =
    serial_told c.args.self.now c.args.item c.metric_of.result None c.metric_of.ensures.value
    (sym (past c.self.inside.rows.now c.metric_of.result c.in-None.ensures.lookup.3) ∙ ap (λ rows. slice_get rows c.metric_of.result) c.self.view_is)

pub returns-in-Some : goal.returns-in-Some
returns-in-Some c =
    serial_told c.args.self.now c.args.item c.metric_of.result (Some c.in-Some.metric.now) c.metric_of.ensures.value
    (sym (get_at c.self.inside.rows.now c.metric_of.result c.in-Some.metric.now c.in-Some.ensures.lookup.3.0 c.in-Some.ensures.lookup.1) ∙ ap (λ rows. slice_get rows c.metric_of.result) c.self.view_is)
