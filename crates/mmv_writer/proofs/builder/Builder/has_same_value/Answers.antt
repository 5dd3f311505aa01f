-- The items and instances of the keys are those of the rows.
use Rattle.std.proofs.Common.{◌∙◌, ap}
use Rattle.std.specs.List.{list_any}
use Rattle.mmv_writer.specs.Rules.{is_same_value}
use Rattle.mmv_writer.proofs.builder.Builder.has_same_value.Goals as goal

pub returns : goal.returns
returns c =
    c.contains.ensures ∙ c.self.invariant.1.values c.args.row.now.item c.args.row.now.instance
    ∙ ap (λ l. list_any (λ other. is_same_value other c.args.row.now) l.values) c.self.view_is
