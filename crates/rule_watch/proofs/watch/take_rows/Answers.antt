-- The rule is as it was.
use Rattle.std.proofs.Common.{sym, subst, arith}
use Rattle.rule_watch.specs.Watched.{IsReadyRule}
use Rattle.rule_watch.proofs.watch.take_rows.Goals as goal

pub take_row-requires-clause-ready : goal.take_row-requires-clause-ready
take_row-requires-clause-ready c =
    let i = c.loop-rule.rule-index in
    let d = c.rule-item.result in
    subst (IsReadyRule c.args.groups.now.groups) (sym (c.loop-rule.invariant.same i d (omega arith))) (c.requires.ready i d (omega arith))
