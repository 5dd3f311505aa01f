-- What stands at a queue's front is told, the sum, or a difference.
use Rattle.std.proofs.Common.{◌≡◌, ◌-ℤ◌, neg_ℤ, map, sym, ap, ap₂, subst, ◌∙◌}
use Rattle.rule_watch.specs.Aggregates.{aggregate_of, least}
use Rattle.rule_watch.specs.Queues.{first_of, minima}
use Rattle.rule_watch.specs.Running.{IsRunning, kind_of}
use Rattle.rule_watch.proofs.Minima.{front_least, greatest_is}
use Rattle.rule_watch.proofs.Sums.{IsBounded, first_bounded, last_bounded, least_bounded, minus_fits, minus_is, plain, turned_fits, turned_is, turned_least}
use Rattle.rule_watch.proofs.running.told.Goals as goal

pub overflow_sub-result : goal.overflow_sub-result
overflow_sub-result c =
    let values = c.args.values.now.items in
    let is : c.in-Greatest.queue.items ≡ minima (map neg_ℤ values) = subst (IsRunning values) c.in-Greatest.is c.requires.running in
    let front : c.first_of-in-Greatest.result ≡ least (map neg_ℤ values) = c.first_of-in-Greatest.ensures ∙ ap first_of is ∙ front_least (map neg_ℤ values) in
    turned_fits c.first_of-in-Greatest.result (subst IsBounded (sym front) (turned_least values c.requires.small))

pub returns-in-Greatest : goal.returns-in-Greatest
returns-in-Greatest c =
    let values = c.args.values.now.items in
    let is : c.in-Greatest.queue.items ≡ minima (map neg_ℤ values) = subst (IsRunning values) c.in-Greatest.is c.requires.running in
    let front : c.first_of-in-Greatest.result ≡ least (map neg_ℤ values) = c.first_of-in-Greatest.ensures ∙ ap first_of is ∙ front_least (map neg_ℤ values) in
    turned_is c.first_of-in-Greatest.result (subst IsBounded (sym front) (turned_least values c.requires.small))
    ∙ ap neg_ℤ front ∙ sym (greatest_is values) ∙ ap (λ r. aggregate_of (kind_of r) values) (sym c.in-Greatest.is)

pub returns-in-Least : goal.returns-in-Least
returns-in-Least c =
    let values = c.args.values.now.items in
    let is : c.in-Least.queue.items ≡ minima values = subst (IsRunning values) c.in-Least.is c.requires.running in
    let front : c.first_of.result ≡ least values = c.first_of.ensures ∙ ap first_of is ∙ front_least values in
    plain c.first_of.result (subst IsBounded (sym front) (least_bounded values c.requires.small))
    ∙ front ∙ ap (λ r. aggregate_of (kind_of r) values) (sym c.in-Least.is)

pub overflow_sub-result-in-Rise : goal.overflow_sub-result-in-Rise
overflow_sub-result-in-Rise c =
    let values = c.args.values.now.items in
    minus_fits c.last_of.result c.first_of-in-Rise.result (subst IsBounded (sym c.last_of.ensures) (last_bounded values c.requires.small))
    (subst IsBounded (sym c.first_of-in-Rise.ensures) (first_bounded values c.requires.small))

pub returns-in-Rise : goal.returns-in-Rise
returns-in-Rise c =
    let values = c.args.values.now.items in
    minus_is c.last_of.result c.first_of-in-Rise.result (subst IsBounded (sym c.last_of.ensures) (last_bounded values c.requires.small))
    (subst IsBounded (sym c.first_of-in-Rise.ensures) (first_bounded values c.requires.small))
    ∙ ap₂ (λ a b. a -ℤ b) c.last_of.ensures c.first_of-in-Rise.ensures ∙ ap (λ r. aggregate_of (kind_of r) values) (sym c.in-Rise.is)
