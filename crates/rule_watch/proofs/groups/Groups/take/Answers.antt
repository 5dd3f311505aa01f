-- The row's values stand in place of those before.
use Rattle.std.proofs.Common.{◌≡◌, sym, subst, arith}
use Rattle.std.specs.Vec.{with_items}
use Rattle.std.proofs.lemmas.List.{with_items_is}
use Rattle.rule_watch.specs.Groups.{AreAllNumbers, AreGroups, Grouped, groups_in, names_in}
use Rattle.rule_watch.proofs.groups.Groups.take.Goals as goal

pub returns-clause-groups : goal.returns-clause-groups
returns-clause-groups c =
    let news = c.group_row.new.groups in
    let left : (with_items c.self.inside.groups news).items ≡ news = with_items_is c.self.inside.groups news (omega arith) in
    subst (λ (g : Grouped). AreGroups g.names c.args.row.now (groups_in (with_items c.self.inside.groups news).items)) c.self.view_is
    (subst (λ gs. AreGroups (names_in c.self.inside.names.keys) c.args.row.now (groups_in gs)) (sym left) c.in_ok-group_row.ensures.groups)

pub returns-clause-numbers : goal.returns-clause-numbers
returns-clause-numbers c =
    let news = c.group_row.new.groups in
    let left : (with_items c.self.inside.groups news).items ≡ news = with_items_is c.self.inside.groups news (omega arith) in
    subst (λ gs. AreAllNumbers (groups_in gs)) (sym left) c.in_ok-group_row.ensures.numbers
