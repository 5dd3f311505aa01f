use Rattle.std.proofs.Common.{◌≡◌, refl, sym, ◌∙◌, true, Some, None}
use Rattle.archive_meta.specs.Facts.{has_values}
use Rattle.archive_meta.proofs.Positions.{shown_by}
use Rattle.archive_meta.proofs.missing.shown_domain.Goals as goal

pub returns-in_default : goal.returns-in_default
returns-in_default c =
    let values : has_values c.args.set.now.body ≡ true = sym c.has_values.ensures ∙ c.if-not-has_values.false in
    shown_by c.args.metrics.now c.args.set.now None None values (sym (c.requires c.args.set.now.pmid) ∙ sym c.position_of.ensures ∙ c.in_default.is) refl

pub returns-in-Some-get : goal.returns-in-Some-get
returns-in-Some-get c =
    let values : has_values c.args.set.now.body ≡ true = sym c.has_values.ensures ∙ c.if-not-has_values.false in
    shown_by c.args.metrics.now c.args.set.now (Some c.in-Some.at) (Some c.in-Some-get.fact.now) values (sym (c.requires c.args.set.now.pmid) ∙ sym c.position_of.ensures ∙ c.in-Some.is) (sym c.in-Some-get.ensures)

pub returns-in-None : goal.returns-in-None
returns-in-None c =
    let values : has_values c.args.set.now.body ≡ true = sym c.has_values.ensures ∙ c.if-not-has_values.false in
    shown_by c.args.metrics.now c.args.set.now (Some c.in-Some.at) None values (sym (c.requires c.args.set.now.pmid) ∙ sym c.position_of.ensures ∙ c.in-Some.is) (sym c.in-None.ensures)
