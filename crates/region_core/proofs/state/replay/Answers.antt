use Rattle.std.proofs.Common.{rules, subst, sym, ◌+◌}
use Rattle.region_core.specs.State.{State, opening}
use Rattle.region_core.proofs.Running.{Ran, ran_more_at, ran_until_at}
use Rattle.region_core.proofs.state.replay.Goals as goal

pub returns-then-not-is_open : goal.returns-then-not-is_open
returns-then-not-is_open c = ran_until_at (opening c.args.words.now c.args.passes) c.args.log.now c.loop-position.position c.loop-position.state _ c.is_open.result (search rules) c.loop-position.invariant c.is_open.ensures.1 c.if-not-is_open.true

pub loop-position-preserved : goal.loop-position-preserved
loop-position-preserved c =
    let open_ = c.is_open.ensures.0 c.if-not-is_open.false in
    subst (λ (t : State). Ran (opening c.args.words.now c.args.passes) c.args.log.now (c.loop-position.position + 1) t) (sym c.step.ensures)
    (ran_more_at (opening c.args.words.now c.args.passes) c.args.log.now c.loop-position.position c.loop-position.state _ (search rules) c.loop-position.invariant open_)
