-- The one metric with the item is found.
use Rattle.std.proofs.Common.{◌∙◌, ap, sym, is_some, nat_eq, ◌&&◌}
use Rattle.std.specs.Option.{option_copied}
use Rattle.mmv_writer.specs.Rules.{fits_kind, fits_some_metric}
use Rattle.mmv_writer.proofs.Firsts.{position_some}
use Rattle.mmv_writer.proofs.Kept.{no_metric, row_there, one_metric, domain_fits}
use Rattle.mmv_writer.proofs.builder.Builder.fits_some_metric.Goals as goal

pub returns-in_default : goal.returns-in_default
returns-in_default c =
    sym (no_metric c.self.inside.layout.indoms c.self.inside.layout.metrics c.args.row.now
    (sym (position_some (λ m. nat_eq m.item c.args.row.now.item) c.self.inside.layout.metrics)
    ∙ ap is_some (sym (c.self.invariant.1.items c.args.row.now.item) ∙ sym c.get.ensures.value ∙ ap option_copied c.in_default.is)))
    ∙ ap (λ l. fits_some_metric l.indoms l.metrics c.args.row.now) c.self.view_is

pub returns-in-None : goal.returns-in-None
returns-in-None c =
    absurd (row_there c.self.inside.layout.metrics c.args.row.now c.in-Some.at.now
    (sym (c.self.invariant.1.items c.args.row.now.item) ∙ sym c.get.ensures.value ∙ ap option_copied c.in-Some.is)
    (sym c.get-2.ensures ∙ ap option_copied c.in-None.is))

pub returns-in-Some-get : goal.returns-in-Some-get
returns-in-Some-get c =
    c.fits_metric.ensures
    ∙ ap (λ b. nat_eq c.in-Some-get.metric.now.item c.args.row.now.item && (b && fits_kind c.in-Some-get.metric.now.kind c.args.row.now.content)) (domain_fits c.self.inside.keys.domains c.self.inside.layout.indoms c.in-Some-get.metric.now.serial c.args.row.now.instance c.self.invariant.1.domains)
    ∙ sym (one_metric c.self.inside.layout.indoms c.self.inside.layout.metrics c.args.row.now c.in-Some.at.now c.in-Some-get.metric.now c.self.invariant.0.items
    (sym (c.self.invariant.1.items c.args.row.now.item) ∙ sym c.get.ensures.value ∙ ap option_copied c.in-Some.is)
    (sym c.get-2.ensures ∙ ap option_copied c.in-Some-get.is))
    ∙ ap (λ l. fits_some_metric l.indoms l.metrics c.args.row.now) c.self.view_is
