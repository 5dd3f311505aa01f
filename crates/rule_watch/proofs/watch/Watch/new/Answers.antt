-- A watch that no row was handed to.
use Rattle.std.proofs.Common.{◌≤◌, length, sym, ap, ◌∙◌, subst, arith}
use Rattle.std.proofs.lemmas.List.{length-map}
use Rattle.rule_watch.specs.Watched.{AreNames, rule_of}
use Rattle.rule_watch.proofs.Watching.{fresh_shows, fresh_watched, rules_seen}
use Rattle.rule_watch.proofs.watch.Watch.new.Goals as goal

pub invariant_of-result : goal.invariant_of-result
invariant_of-result c =
    let made = c.in_ok-rules.rules.items in
    let names = c.watch_rules.new.groups.names in
    let few : length made ≤ 64 = omega (arith, c.into_list.ensures.range.few, length-map made rule_of, ap length c.in_ok-rules.ensures.rules) in
    fresh_watched names made few c.in_ok-rules.ensures.fresh c.in_ok-rules.ensures.known (subst (AreNames names) (sym c.in_ok-rules.ensures.rules) c.in_ok-rules.ensures.named)

pub returns-clause-rules : goal.returns-clause-rules
returns-clause-rules c = rules_seen c.in_ok-rules.rules.items ∙ c.in_ok-rules.ensures.rules ∙ c.into_list.ensures.rules

pub returns-clause-shows : goal.returns-clause-shows
returns-clause-shows c = fresh_shows c.in_ok-rules.rules.items c.in_ok-rules.ensures.fresh
