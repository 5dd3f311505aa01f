use Rattle.std.proofs.Common.{◌≡◌, drop, refl, ap, ◌∙◌}
use Rattle.result_form.specs.Shown.{set_size}
use Rattle.result_form.proofs.Lying.{sets_go_on}
use Rattle.result_form.proofs.Walks.{taken, sets_left}
use Rattle.result_form.proofs.owned.sets_of.Goals as goal

pub set_of-requires-clause-lies : goal.set_of-requires-clause-lies
set_of-requires-clause-lies c =
    (sets_go_on c.args.payload.now c.args.end c.args.count c.loop.counter c.loop.left.now (drop (set_size c.loop.left.now) c.loop.left.now) c.loop-test.true refl c.loop.invariant.lie).0

pub loop-preserved : goal.loop-preserved
loop-preserved c =
    let rest : c.behind-left.result.now ≡ drop (set_size c.loop.left.now) c.loop.left.now = c.behind-left.ensures ∙ ap (λ k. drop k c.loop.left.now) c.set_size.ensures in
    record {
      all = taken c.loop.sets c.push.new.self _ _ _ _ c.in_ok-push.ensures.ok
          (sets_left c.args.count c.loop.counter c.loop-test.true c.loop.left.now c.behind-left.result.now c.args.payload.now c.in_ok-set.set c.in_ok-set.ensures rest) c.loop.invariant.all;
      lie = (sets_go_on c.args.payload.now c.args.end c.args.count c.loop.counter c.loop.left.now c.behind-left.result.now c.loop-test.true rest c.loop.invariant.lie).1;
    }
