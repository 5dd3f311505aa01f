-- What is behind the borrow is ready.
use Rattle.std.proofs.Common.{sym, subst, arith}
use Rattle.std.specs.List.{All}
use Rattle.std.proofs.lemmas.List.{with_items_is}
use Rattle.rule_watch.specs.Watched.{IsReady}
use Rattle.rule_watch.proofs.Watching.{on_ok}
use Rattle.rule_watch.proofs.watched.prepare_rule.Goals as goal

pub returns-clause-ready : goal.returns-clause-ready
returns-clause-ready c =
    let news = c.prepare_all.new.conditions in
    on_ok c.prepare_all.result (λ all. subst (All (IsReady c.args.groups.now.groups)) (sym (with_items_is c.args.rule.now.conditions news (omega arith))) all) c.prepare_all.ensures.ready
