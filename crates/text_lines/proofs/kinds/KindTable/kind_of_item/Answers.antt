-- What the map has for the item.
use Rattle.std.proofs.Common.{◌∙◌, ap, unwrap_or}
use Rattle.pcp_base.specs.declared.kind.Kind.TheVariants as kinds
use Rattle.text_lines.specs.Whole.{kind_of_item}
use Rattle.text_lines.proofs.KindRows.{kind_is}
use Rattle.text_lines.proofs.kinds.KindTable.kind_of_item.Goals as goal

pub returns-in-None : goal.returns-in-None
returns-in-None c = ap (λ o. unwrap_or o kinds.U64) (c.in-None.ensures.value ∙ c.self.invariant c.args.item) ∙ kind_is c.args.item c.self.inside.metrics.now ∙ ap (kind_of_item c.args.item) c.self.view_is

pub returns-in-Some : goal.returns-in-Some
returns-in-Some c = ap (λ o. unwrap_or o kinds.U64) (c.in-Some.ensures.value ∙ c.self.invariant c.args.item) ∙ kind_is c.args.item c.self.inside.metrics.now ∙ ap (kind_of_item c.args.item) c.self.view_is
