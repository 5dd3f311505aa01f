-- The first metric with the item is found.
use Rattle.std.proofs.Common.{◌∙◌, ap, sym, is_some, nat_eq}
use Rattle.std.specs.Option.{option_copied}
use Rattle.mmv_layout.specs.declared.rows.Layout.{Layout}
use Rattle.mmv_writer.proofs.Firsts.{position_some}
use Rattle.mmv_writer.specs.Reading.{kind_in}
use Rattle.mmv_writer.proofs.ItemKinds.{no_kind, kind_there}
use Rattle.mmv_writer.proofs.builder.Builder.kind_of.Goals as goal

pub returns-in_default : goal.returns-in_default
returns-in_default c =
    sym (no_kind c.self.inside.layout.metrics c.args.item
    (sym (position_some (λ m. nat_eq m.item c.args.item) c.self.inside.layout.metrics)
    ∙ ap is_some (sym (c.self.invariant.1.items c.args.item) ∙ sym c.get.ensures.value ∙ ap option_copied c.in_default.is)))
    ∙ ap (λ (l : Layout). kind_in l.metrics c.args.item) c.self.view_is

pub returns-in-None : goal.returns-in-None
returns-in-None c =
    sym (kind_there c.self.inside.layout.metrics c.args.item c.in-Some.at.now _
    (sym (c.self.invariant.1.items c.args.item) ∙ sym c.get.ensures.value ∙ ap option_copied c.in-Some.is)
    (sym c.get-2.ensures ∙ ap option_copied c.in-None.is))
    ∙ ap (λ (l : Layout). kind_in l.metrics c.args.item) c.self.view_is

pub returns-in-Some-get : goal.returns-in-Some-get
returns-in-Some-get c =
    sym (kind_there c.self.inside.layout.metrics c.args.item c.in-Some.at.now _
    (sym (c.self.invariant.1.items c.args.item) ∙ sym c.get.ensures.value ∙ ap option_copied c.in-Some.is)
    (sym c.get-2.ensures ∙ ap option_copied c.in-Some-get.is))
    ∙ ap (λ (l : Layout). kind_in l.metrics c.args.item) c.self.view_is
