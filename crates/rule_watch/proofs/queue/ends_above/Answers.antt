-- The number at the end is read.
use Rattle.std.proofs.Common.{◌≡◌, ◌+◌, ◌-◌, ◌<◌, ℤ, refl, length, FitsSigned, ap₂, ◌∙◌, arith, rules}
use Rattle.std.specs.Prelude.{int_lt}
use Rattle.std.specs.Int.{w128}
use Rattle.std.specs.VecDeque.{deque_len}
use Rattle.std.proofs.lemmas.Int.{to_z-of_z}
use Rattle.rule_watch.proofs.Minima.{ends_at}
use Rattle.rule_watch.proofs.queue.ends_above.Goals as goal

pub returns-in-Some : goal.returns-in-Some
returns-in-Some c =
    let x : ℤ = c.in-Some.last.now in
    let fits : FitsSigned w128 x = search rules in
    let some : 0 < deque_len c.args.queue.now = c.in-Some.ensures.variant.0 refl in
    let long : deque_len c.args.queue.now - 1 + 1 ≡ length c.args.queue.now.items = omega (arith, c.args.queue.now.ok.0) in
    ap₂ int_lt (to_z-of_z w128 c.args.number c.ranges.number) (to_z-of_z w128 x fits)
    ∙ ends_at c.args.number c.args.queue.now.items (deque_len c.args.queue.now - 1) x long c.in-Some.ensures.lookup
