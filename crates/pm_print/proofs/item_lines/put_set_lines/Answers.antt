-- The lines by what is kept are those of the set.
use Rattle.std.proofs.Common.{◌++◌, ap, ◌∙◌, subst}
use Rattle.std.proofs.lemmas.Result.{IfOk-weaker}
use Rattle.result_form.specs.Bodies.{as_body}
use Rattle.pm_print.specs.Starts.{NamesNone}
use Rattle.pm_print.proofs.Unnamed.{named_lines, unnamed_lines}
use Rattle.pm_print.proofs.item_lines.put_set_lines.Goals as goal

pub returns-then-names_none : goal.returns-then-names_none
returns-then-names_none c =
    IfOk-weaker c.put_body-then-names_none.result _ _
    (λ v e. e
    ∙ ap (λ t. c.args.out.now.items ++ t)
    (unnamed_lines c.args.meta.now c.args.stamp c.args.start.now c.args.set.now c.requires.said c.requires.metric c.deref.result.now c.code_in-code.result c.none.result (as_body c.body-then-names_none.result) c.deref.ensures.value c.code_in-code.ensures c.body-then-names_none.ensures c.none.ensures
    (subst NamesNone c.body.ensures (c.names_none.ensures c.if-names_none.true))))
    c.put_body-then-names_none.ensures

pub returns : goal.returns
returns c =
    IfOk-weaker c.put_body-2.result _ _
    (λ v e. e
    ∙ ap (λ t. c.args.out.now.items ++ t)
    (named_lines c.args.meta.now c.args.stamp c.args.start.now c.args.set.now c.requires.said c.requires.metric c.deref-2.result.now c.code_in-code.result c.in_ok-instances.instances (as_body c.body-2.result) c.deref-2.ensures.value c.code_in-code.ensures c.body-2.ensures c.in_ok-instances.ensures))
    c.put_body-2.ensures
