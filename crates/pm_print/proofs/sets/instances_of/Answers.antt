use Rattle.std.proofs.Common.{sym, ap, ◌∙◌}
use Rattle.std.proofs.lemmas.Result.{IfOk-weaker}
use Rattle.pm_print.specs.Holding.{instances_at}
use Rattle.pm_print.proofs.Held.{held_is_found, nothing_held}
use Rattle.pm_print.proofs.sets.instances_of.Goals as goal

pub returns-in-Some-domain_at : goal.returns-in-Some-domain_at
returns-in-Some-domain_at c =
    IfOk-weaker c.of.result _ _
    (λ v e. e ∙ sym (held_is_found c.in-Some.desc.indom c.args.stamp c.args.meta.now c.in-Some-domain_at.listed.now c.in-Some-domain_at.ensures)
    ∙ ap (λ d. instances_at c.args.meta.now d c.args.stamp) (sym c.in-Some.is))
    c.of.ensures

pub returns-in-None : goal.returns-in-None
returns-in-None c =
    c.none-in-None.ensures ∙ sym (nothing_held c.in-Some.desc.indom c.args.stamp c.args.meta.now c.in-None.ensures) ∙ ap (λ d. instances_at c.args.meta.now d c.args.stamp) (sym c.in-Some.is)
