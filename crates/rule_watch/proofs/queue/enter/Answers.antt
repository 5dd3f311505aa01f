-- The numbers above the new one go, and it comes behind the others.
use Rattle.std.proofs.Common.{to_z, of_z, ◌∷◌, [], ◌++◌, ap, ap₂, sym, ◌∙◌}
use Rattle.std.specs.Int.{w128}
use Rattle.std.proofs.lemmas.Int.{to_z-of_z}
use Rattle.rule_watch.specs.Queues.{trimmed}
use Rattle.rule_watch.proofs.Minima.{entered}
use Rattle.rule_watch.proofs.queue.enter.Goals as goal

pub returns-clause-queue : goal.returns-clause-queue
returns-clause-queue c = λ values is.
    c.push_back_reserved.ensures.items
    ∙ ap (λ items. items ++ to_z w128 (of_z w128 c.args.number) ∷ []) c.trim.ensures.queue
    ∙ ap₂ (λ n items. trimmed n items ++ n ∷ []) (to_z-of_z w128 c.args.number c.ranges.number) is
    ∙ sym (entered c.args.number values)
