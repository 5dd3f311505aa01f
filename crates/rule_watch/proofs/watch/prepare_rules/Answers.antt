-- One more rule is ready.
use Rattle.std.proofs.Common.{ℕ, ◌<◌, List, length, get_or, sym, ◌∙◌, subst, arith}
use Rattle.rule_watch.specs.declared.watched.WatchedRule.{WatchedRule}
use Rattle.rule_watch.specs.Watched.{IsReadyRule, Stays, Turns}
use Rattle.rule_watch.proofs.Slots.{each_set, rest_set, was_old}
use Rattle.rule_watch.proofs.watch.prepare_rules.Goals as goal

pub loop-rule-preserved : goal.loop-rule-preserved
loop-rule-preserved c =
    let old : List WatchedRule = c.args.rules.now in
    let now : List WatchedRule = c.loop-rule.rules in
    let i : ℕ = c.loop-rule.rule-index in
    let new : WatchedRule = c.prepare_rule.new.rule in
    let inside : i < length now = omega arith in
    let first : i < length old = omega arith in
    let was = was_old now old i c.rule-item.result first c.rule-item.is c.loop-rule.invariant.same in
    record {
      stays = each_set (λ k d (x : WatchedRule). Turns Stays (get_or old k d) x) now i new inside c.loop-rule.invariant.stays (λ d. subst (λ (x : WatchedRule). Turns Stays x new) (sym c.rule-item.is ∙ was d) c.in_ok-prepare_rule.ensures.stays);
      ready = each_set (λ k d (x : WatchedRule). IsReadyRule c.args.groups.now.groups x) now i new inside c.loop-rule.invariant.ready (λ d. c.in_ok-prepare_rule.ensures.ready);
      same = rest_set now old i new c.loop-rule.invariant.same;
    }

pub returns-clause-ready : goal.returns-clause-ready
returns-clause-ready c = λ k d below. let before : k < c.loop-rule.rule-index = omega arith in c.loop-rule.invariant.ready k d before
