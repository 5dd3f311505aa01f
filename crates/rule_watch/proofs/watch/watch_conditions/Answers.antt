-- The condition that is taken is the first of those that are left, and its name gets its number.
use Rattle.std.proofs.Common.{◌≡◌, ℕ, List, [], ◌∷◌, ◌++◌, ◌||◌, map, reverse, append_assoc, sym, ap, ◌∙◌, subst, arith, rules}
use Rattle.std.specs.Prelude.{bytes_eq, position}
use Rattle.std.specs.List.{All, list_any}
use Rattle.std.proofs.lemmas.Grind.{common_steps}
use Rattle.std.proofs.lemmas.List.{map-append, reverse-append}
use Rattle.std.proofs.lemmas.List.Elements.{All-push}
use Rattle.rule_watch.specs.declared.rule.Condition.{Condition}
use Rattle.rule_watch.specs.declared.watched.WatchedCondition.{WatchedCondition}
use Rattle.rule_watch.specs.Rules.{AreConditions}
use Rattle.rule_watch.specs.Watched.{IsFresh, IsKnown}
use Rattle.rule_watch.proofs.GroupSteps.{known_later, named_all, named_more}
use Rattle.rule_watch.proofs.watch.watch_conditions.Goals as goal

pub loop-condition-preserved : goal.loop-condition-preserved
loop-condition-preserved c =
    let condition : Condition = c.in-Some.condition in
    let made : List WatchedCondition = c.loop-condition.made.items in
    let next : WatchedCondition = record { condition = condition; number = c.in_ok-number.number; windows = c.new.result } in
    let names : List (List ℕ) = c.loop-condition.groups.names in
    let later : List (List ℕ) = c.add.new.self.names in
    let rest : List Condition = reverse c.pop.new.self.items in
    let front : reverse c.loop-condition.left.items ≡ condition ∷ rest = ap reverse c.in-Some.ensures.items ∙ reverse-append c.pop.new.self.items (condition ∷ []) in
    let grown : c.push.new.self.items ≡ made ++ next ∷ [] = c.in_ok-push.ensures.items in
    let all : AreConditions (condition ∷ rest) = subst AreConditions front c.loop-condition.invariant.right in
    let same : c.as_slice.result.now ≡ condition.name = c.as_slice.ensures.value in
    let known : IsKnown later next = ap (λ n. position (bytes_eq n) later) (sym same) ∙ c.in_ok-number.ensures.number in
    record {
      conditions = ap (λ (ms : List WatchedCondition). map (λ w. w.condition) ms ++ rest) grown
          ∙ ap (λ (cs : List Condition). cs ++ rest) (map-append (λ (w : WatchedCondition). w.condition) made (next ∷ []))
          ∙ append_assoc (map (λ w. w.condition) made) (condition ∷ []) rest
          ∙ ap (λ (cs : List Condition). map (λ w. w.condition) made ++ cs) (sym front)
          ∙ c.loop-condition.invariant.conditions;
      fresh = subst (All IsFresh) (sym grown) (All-push IsFresh made next c.loop-condition.invariant.fresh (all.0.size, search rules));
      right = all.1;
      known = subst (All (IsKnown later)) (sym grown) (All-push (IsKnown later) made next (known_later names later c.in_ok-number.ensures.keeps made c.loop-condition.invariant.known) known);
      keeps = λ name k e. c.in_ok-number.ensures.keeps name k (c.loop-condition.invariant.keeps name k e);
      named = λ name.
          named_more name (list_any (bytes_eq name) c.args.groups.now.names) (list_any (bytes_eq name) names) (list_any (bytes_eq name) later) made next (c.loop-condition.invariant.named name)
          (subst (λ n. list_any (bytes_eq name) later ≡ (list_any (bytes_eq name) names || bytes_eq name n)) same (c.in_ok-number.ensures.named name))
          ∙ ap (λ (ms : List WatchedCondition). list_any (bytes_eq name) c.args.groups.now.names || list_any (λ w. bytes_eq name w.condition.name) ms) (sym grown);
    }

pub returns-clause-named : goal.returns-clause-named
returns-clause-named c = λ name.
    let same : map (λ w. w.condition) c.loop-condition.made.items ≡ c.args.conditions = grind (arith, common_steps) in
    c.loop-condition.invariant.named name ∙ ap (λ b. list_any (bytes_eq name) c.args.groups.now.names || b) (named_all name c.loop-condition.made.items c.args.conditions same)
