-- The condition is as it was.
use Rattle.std.proofs.Common.{sym, subst, arith}
use Rattle.rule_watch.specs.Watched.{IsReady}
use Rattle.rule_watch.proofs.watched.take_all.Goals as goal

pub take-requires-clause-ready : goal.take-requires-clause-ready
take-requires-clause-ready c =
    let i = c.loop-watched.watched-index in
    let d = c.watched-item.result in
    subst (IsReady c.args.groups.now.groups) (sym (c.loop-watched.invariant.same i d (omega arith))) (c.requires.ready i d (omega arith))
