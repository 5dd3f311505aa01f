-- One more condition is ready.
use Rattle.std.proofs.Common.{ℕ, ◌<◌, List, length, get_or, sym, ◌∙◌, subst, arith}
use Rattle.rule_watch.specs.declared.watched.WatchedCondition.{WatchedCondition}
use Rattle.rule_watch.specs.Watched.{IsReady, Stays}
use Rattle.rule_watch.proofs.Slots.{each_set, rest_set, was_old}
use Rattle.rule_watch.proofs.watched.prepare_all.Goals as goal

pub loop-watched-preserved : goal.loop-watched-preserved
loop-watched-preserved c =
    let old : List WatchedCondition = c.args.conditions.now in
    let now : List WatchedCondition = c.loop-watched.conditions in
    let i : ℕ = c.loop-watched.watched-index in
    let new : WatchedCondition = c.prepare.new.watched in
    let inside : i < length now = omega arith in
    let first : i < length old = omega arith in
    let was = was_old now old i c.watched-item.result first c.watched-item.is c.loop-watched.invariant.same in
    record {
      stays = each_set (λ k d (x : WatchedCondition). Stays (get_or old k d) x) now i new inside c.loop-watched.invariant.stays (λ d. subst (λ (x : WatchedCondition). Stays x new) (sym c.watched-item.is ∙ was d) c.in_ok-prepare.ensures.stays);
      ready = each_set (λ k d (x : WatchedCondition). IsReady c.args.groups.now.groups x) now i new inside c.loop-watched.invariant.ready (λ d. c.in_ok-prepare.ensures.ready);
      same = rest_set now old i new c.loop-watched.invariant.same;
    }
