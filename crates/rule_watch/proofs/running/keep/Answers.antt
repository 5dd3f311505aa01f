-- A queue has room for a newer value, and the sum takes it.
use Rattle.std.proofs.Common.{◌≡◌, ◌+◌, ◌≤◌, neg_ℤ, ◌+ℤ◌, length, map, sym, ap, subst, ◌∙◌, arith}
use Rattle.std.specs.VecDeque.{deque_capacity}
use Rattle.std.proofs.lemmas.List.{length-map}
use Rattle.rule_watch.specs.Aggregates.{total}
use Rattle.rule_watch.specs.Queues.{minima}
use Rattle.rule_watch.specs.Running.{HasRoom, IsRunning}
use Rattle.rule_watch.proofs.Minima.{few_minima}
use Rattle.rule_watch.proofs.Sums.{IsBounded, plus_fits, plus_is, total_bounded, total_with, value_bounded}
use Rattle.rule_watch.proofs.running.keep.Goals as goal

pub enter-requires : goal.enter-requires
enter-requires c =
    let values = c.args.values.now.items in
    let is : c.in-Least.queue.items ≡ minima values = subst (IsRunning values) c.in-Least.is c.requires.running in
    let room : length values + 1 ≤ deque_capacity c.in-Least.queue = subst (HasRoom (length values + 1)) c.in-Least.is c.requires.room in
    omega (arith, c.in-Least.queue.ok.0, ap length is, few_minima values)

pub enter-requires-in-Greatest : goal.enter-requires-in-Greatest
enter-requires-in-Greatest c =
    let values = c.args.values.now.items in
    let is : c.in-Greatest.queue.items ≡ minima (map neg_ℤ values) = subst (IsRunning values) c.in-Greatest.is c.requires.running in
    let room : length values + 1 ≤ deque_capacity c.in-Greatest.queue = subst (HasRoom (length values + 1)) c.in-Greatest.is c.requires.room in
    omega (arith, c.in-Greatest.queue.ok.0, ap length is, few_minima (map neg_ℤ values), length-map values neg_ℤ)

pub overflow_add-sum : goal.overflow_add-sum
overflow_add-sum c =
    let values = c.args.values.now.items in
    let few : length values ≤ 1000 = omega (arith, c.requires.few) in
    let is : c.in-Total.sum ≡ total values = subst (IsRunning values) c.in-Total.is c.requires.running in
    plus_fits c.in-Total.sum c.args.number (subst IsBounded (sym is) (total_bounded values c.requires.small few)) (value_bounded c.args.number c.requires.value)

pub returns-in-Total-clause-running : goal.returns-in-Total-clause-running
returns-in-Total-clause-running c =
    let values = c.args.values.now.items in
    let few : length values ≤ 1000 = omega (arith, c.requires.few) in
    let is : c.in-Total.sum ≡ total values = subst (IsRunning values) c.in-Total.is c.requires.running in
    plus_is c.in-Total.sum c.args.number (subst IsBounded (sym is) (total_bounded values c.requires.small few)) (value_bounded c.args.number c.requires.value)
    ∙ ap (λ s. s +ℤ c.args.number) is ∙ sym (total_with values c.args.number)
