-- The oldest value stands at the front, or was passed over.
use Rattle.std.proofs.Common.{ap, sym, ◌∙◌}
use Rattle.std.specs.Int.{w128}
use Rattle.std.proofs.lemmas.Int.{to_z-of_z}
use Rattle.rule_watch.specs.Queues.{first_is}
use Rattle.rule_watch.proofs.Minima.{left_front, left_before}
use Rattle.rule_watch.proofs.queue.leave.Goals as goal

pub returns-then-first_is-clause-queue : goal.returns-then-first_is-clause-queue
returns-then-first_is-clause-queue c = λ rest is.
    c.pop_front.ensures.rest
    ∙ left_front c.args.oldest rest c.args.queue.now.items is (ap (λ n. first_is n c.args.queue.now.items) (sym (to_z-of_z w128 c.args.oldest c.ranges.oldest)) ∙ sym c.if-first_is.ensures)

pub returns-else-first_is-clause-queue : goal.returns-else-first_is-clause-queue
returns-else-first_is-clause-queue c = λ rest is.
    left_before c.args.oldest rest c.args.queue.now.items is (ap (λ n. first_is n c.args.queue.now.items) (sym (to_z-of_z w128 c.args.oldest c.ranges.oldest)) ∙ sym c.if-first_is.ensures)
