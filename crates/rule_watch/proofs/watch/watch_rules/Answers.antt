-- The rule that is taken is the first of those that are left.
use Rattle.std.proofs.Common.{◌≡◌, ℕ, List, [], ◌∷◌, ◌++◌, map, reverse, append_assoc, sym, ap, ◌∙◌, subst, arith}
use Rattle.std.specs.Prelude.{bytes_eq}
use Rattle.std.specs.List.{AllByRecursion, All, list_any}
use Rattle.std.proofs.lemmas.Grind.{common_steps}
use Rattle.std.proofs.lemmas.List.{map-append, reverse-append}
use Rattle.std.proofs.lemmas.List.Elements.{All-push}
use Rattle.rule_watch.specs.declared.rule.Rule.{Rule}
use Rattle.rule_watch.specs.declared.watched.WatchedRule.{WatchedRule}
use Rattle.rule_watch.specs.Rules.{IsWritten, is_watched}
use Rattle.rule_watch.specs.Watched.{IsFreshRule, IsKnownRule, rule_of}
use Rattle.rule_watch.proofs.GroupSteps.{known_rules_later, named_rules_more}
use Rattle.rule_watch.proofs.watch.watch_rules.Goals as goal

pub loop-rule-preserved : goal.loop-rule-preserved
loop-rule-preserved c =
    let made : List WatchedRule = c.loop-rule.made.items in
    let next : WatchedRule = c.in_ok-watch_rule.field-0 in
    let names : List (List ℕ) = c.loop-rule.groups.names in
    let later : List (List ℕ) = c.watch_rule.new.groups.names in
    let rest : List Rule = reverse c.pop.new.self.items in
    let front : reverse c.loop-rule.left.items ≡ c.in-Some.rule ∷ rest = ap reverse c.in-Some.ensures.items ∙ reverse-append c.pop.new.self.items (c.in-Some.rule ∷ []) in
    let grown : c.push.new.self.items ≡ made ++ next ∷ [] = c.in_ok-push.ensures.items in
    record {
      rules = ap (λ (ms : List WatchedRule). map rule_of ms ++ rest) grown
          ∙ ap (λ (rs : List Rule). rs ++ rest) (map-append rule_of made (next ∷ []))
          ∙ append_assoc (map rule_of made) (rule_of next ∷ []) rest
          ∙ ap (λ (r : Rule). map rule_of made ++ r ∷ rest) c.in_ok-watch_rule.ensures.rule
          ∙ ap (λ (rs : List Rule). map rule_of made ++ rs) (sym front)
          ∙ c.loop-rule.invariant.rules;
      fresh = subst (All IsFreshRule) (sym grown) (All-push IsFreshRule made next c.loop-rule.invariant.fresh c.in_ok-watch_rule.ensures.fresh);
      known = subst (All (IsKnownRule later)) (sym grown) (All-push (IsKnownRule later) made next (known_rules_later names later c.in_ok-watch_rule.ensures.keeps made c.loop-rule.invariant.known) c.in_ok-watch_rule.ensures.known);
      named = λ name.
          named_rules_more name (list_any (bytes_eq name) names) (list_any (bytes_eq name) later) made next c.in-Some.rule c.in_ok-watch_rule.ensures.rule (c.loop-rule.invariant.named name) (c.in_ok-watch_rule.ensures.named name)
          ∙ ap (λ (ms : List WatchedRule). is_watched (map rule_of ms) name) (sym grown);
      right = (let all : AllByRecursion IsWritten (c.in-Some.rule ∷ rest) = subst (AllByRecursion IsWritten) front c.loop-rule.invariant.right in all.1);
    }

pub returns-clause-named : goal.returns-clause-named
returns-clause-named c = λ name.
    let same : map rule_of c.loop-rule.made.items ≡ c.args.rules = grind (arith, common_steps) in
    c.loop-rule.invariant.named name ∙ ap (λ rules. is_watched rules name) same
