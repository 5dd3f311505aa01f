-- What is kept is behind the borrow what the row left of it.
use Rattle.std.proofs.Common.{◌≡◌, sym, ap, ◌∙◌, arith}
use Rattle.std.specs.Vec.{with_items}
use Rattle.std.proofs.lemmas.List.{with_items_is}
use Rattle.rule_watch.specs.Watched.{kept_rules}
use Rattle.rule_watch.proofs.Watching.{answers_same, on_err, shows_same}
use Rattle.rule_watch.proofs.watch.Watch.push.Goals as goal

pub returns-in_err-numbers-clause-err : goal.returns-in_err-numbers-clause-err
returns-in_err-numbers-clause-err c =
    let news = c.push_row.new.rules in
    let left : (with_items c.self.inside.rules news).items ≡ news = with_items_is c.self.inside.rules news (omega arith) in
    on_err c.from_residual.result
    (shows_same (kept_rules c.deref_mut.result.now) c.args.self.now (kept_rules news) (kept_rules (with_items c.self.inside.rules news).items)
    (ap kept_rules c.deref_mut.ensures.value ∙ c.self.view_is) (ap kept_rules (sym left)) c.in_err-numbers.ensures.err)

pub returns-clause-ok : goal.returns-clause-ok
returns-clause-ok c =
    let news = c.push_row.new.rules in
    let left : (with_items c.self.inside.rules news).items ≡ news = with_items_is c.self.inside.rules news (omega arith) in
    answers_same (kept_rules c.deref_mut.result.now) c.args.self.now c.as_slice.result.now c.args.row.now (kept_rules news) (kept_rules (with_items c.self.inside.rules news).items)
    c.in_ok-numbers.numbers.items c.from_vec.result
    (ap kept_rules c.deref_mut.ensures.value ∙ c.self.view_is) c.as_slice.ensures (ap kept_rules (sym left)) (sym c.from_vec.ensures) c.in_ok-numbers.ensures.ok
