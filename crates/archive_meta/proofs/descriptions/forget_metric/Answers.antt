use Rattle.std.proofs.Common.{refl, sym, ap, ◌∙◌, Some}
use Rattle.archive_meta.proofs.FirstSeen.{drops_none, drops_last, popped, apart, nowhere}
use Rattle.archive_meta.proofs.descriptions.forget_metric.Goals as goal

pub returns-then-position-at : goal.returns-then-position-at
returns-then-position-at c = drops_last c.args.descriptions.now c.pop.new.self c.args.pmid c.args.at c.pop.result (sym c.position_of.ensures ∙ c.in-Some.is ∙ ap Some c.if-position-at.true) c.pop.ensures.entries c.pop.ensures.found.1
    (popped c.args.descriptions.now c.pop.new.self c.pop.result c.pop.ensures.updates)

pub returns-else-position-at : goal.returns-else-position-at
returns-else-position-at c = drops_none c.args.descriptions.now c.args.descriptions.now c.args.pmid c.args.at (apart _ c.in-Some.position c.args.at (sym c.position_of.ensures ∙ c.in-Some.is) c.if-position-at.false) refl

pub returns-in_default : goal.returns-in_default
returns-in_default c = drops_none c.args.descriptions.now c.args.descriptions.now c.args.pmid c.args.at (nowhere _ c.args.at (sym c.position_of.ensures ∙ c.in_default.is)) refl
