-- The sum without the oldest value.
use Rattle.std.proofs.Common.{◌≡◌, ◌-ℤ◌, sym, ap₂, subst, ◌∙◌}
use Rattle.rule_watch.specs.Aggregates.{total}
use Rattle.rule_watch.specs.Running.{IsRunning}
use Rattle.rule_watch.proofs.Sums.{IsBounded, first_bounded, minus_fits, minus_is, total_bounded, total_drop}
use Rattle.rule_watch.proofs.running.forget.Goals as goal

pub overflow_sub-sum : goal.overflow_sub-sum
overflow_sub-sum c =
    let values = c.args.values.now.items in
    let is : c.in-Total.sum ≡ total values = subst (IsRunning values) c.in-Total.is c.requires.running in
    minus_fits c.in-Total.sum c.first_of-oldest.result (subst IsBounded (sym is) (total_bounded values c.requires.small c.requires.few))
    (subst IsBounded (sym c.first_of-oldest.ensures) (first_bounded values c.requires.small))

pub returns-in-Total-clause-running : goal.returns-in-Total-clause-running
returns-in-Total-clause-running c =
    let values = c.args.values.now.items in
    let is : c.in-Total.sum ≡ total values = subst (IsRunning values) c.in-Total.is c.requires.running in
    minus_is c.in-Total.sum c.first_of-oldest.result (subst IsBounded (sym is) (total_bounded values c.requires.small c.requires.few))
    (subst IsBounded (sym c.first_of-oldest.ensures) (first_bounded values c.requires.small))
    ∙ ap₂ (λ s x. s -ℤ x) is c.first_of-oldest.ensures ∙ total_drop values c.requires.some
