-- The items and the names of the keys are those of the rows.
use Rattle.std.proofs.Common.{◌∙◌, ap}
use Rattle.std.specs.List.{list_any}
use Rattle.mmv_writer.specs.Rules.{is_same_metric}
use Rattle.mmv_writer.proofs.Kept.{metric_said}
use Rattle.mmv_writer.proofs.builder.Builder.has_same_metric.Goals as goal

pub returns : goal.returns
returns c =
    c.has_metric.ensures ∙ metric_said c.self.inside.keys.items c.self.inside.keys.names c.self.inside.layout.metrics c.args.row.now c.self.invariant.1.items c.self.invariant.1.names
    ∙ ap (λ l. list_any (λ other. is_same_metric other c.args.row.now) l.metrics) c.self.view_is
