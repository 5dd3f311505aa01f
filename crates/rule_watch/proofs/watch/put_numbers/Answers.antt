-- There is room for one more number, and it is put down where its rule holds.
use Rattle.std.proofs.Common.{◌≡◌, ℕ, ◌<◌, ◌≤◌, true, false, cond, List, [], ◌∷◌, ◌++◌, take, length, length-take, append-nil, sym, ap, ◌∙◌, subst, arith}
use Rattle.std.specs.Global.{Vec}
use Rattle.std.specs.Vec.{vec_capacity}
use Rattle.rule_watch.specs.declared.watched.WatchedRule.{WatchedRule}
use Rattle.rule_watch.specs.Watched.{groups_hold, places_from}
use Rattle.rule_watch.proofs.Places.{few_places, places_more}
use Rattle.rule_watch.proofs.watch.put_numbers.Goals as goal
use Rattle.rule_watch.proofs.watch.put_numbers.Goals.{then-rule_holds, else-rule_holds}

pub push_reserved-requires : goal.push_reserved-requires
push_reserved-requires c =
    let rules : List WatchedRule = c.args.rules.now in
    omega (arith, c.loop-at.numbers.ok.0, ap length c.loop-at.invariant.numbers, few_places (groups_hold c.args.groups.now.groups) 0 (take c.loop-at.at rules), length-take c.loop-at.at rules, c.loop-at.invariant.room)

pub loop-at-preserved : goal.loop-at-preserved
loop-at-preserved c =
    let rules : List WatchedRule = c.args.rules.now in
    let at : ℕ = c.loop-at.at in
    let rule : WatchedRule = c.index-rules-at.result in
    let below : at < length rules = omega arith in
    let before : List ℕ = places_from 0 (groups_hold c.args.groups.now.groups) (take at rules) in
    let more = places_more (groups_hold c.args.groups.now.groups) rules at rule below c.index-rules-at.is in
    elim c.if-rule_holds.branch [
      | then-rule_holds w ↦
          (let holds : groups_hold c.args.groups.now.groups rule ≡ true = sym c.rule_holds.ensures ∙ w.if-rule_holds.true in
          record {
            numbers = ap (λ (v : Vec ℕ). v.items) w.numbers-is ∙ w.push_reserved.ensures.items ∙ ap (λ ms. ms ++ at ∷ []) c.loop-at.invariant.numbers
                ∙ sym (more ∙ ap (λ b. before ++ cond b (at ∷ []) []) holds);
            room = subst (λ (v : Vec ℕ). length rules ≤ vec_capacity v) (sym w.numbers-is) (subst (λ n. length rules ≤ n) (sym w.push_reserved.ensures.capacity) c.loop-at.invariant.room);
          })
      | else-rule_holds w ↦
          (let holds : groups_hold c.args.groups.now.groups rule ≡ false = sym c.rule_holds.ensures ∙ w.if-rule_holds.false in
          record {
            numbers = ap (λ (v : Vec ℕ). v.items) w.numbers-is ∙ c.loop-at.invariant.numbers
                ∙ sym (more ∙ ap (λ b. before ++ cond b (at ∷ []) []) holds ∙ append-nil before);
            room = subst (λ (v : Vec ℕ). length rules ≤ vec_capacity v) (sym w.numbers-is) c.loop-at.invariant.room;
          })
    ]
