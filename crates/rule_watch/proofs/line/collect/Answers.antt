-- One more condition is taken.
use Rattle.std.proofs.Common.{◌≡◌, ◌-◌, ◌<◌, ℕ, List, [], ◌∷◌, ◌++◌, length, sym, ap, ◌∙◌, subst, arith}
use Rattle.rule_watch.specs.declared.rule.Condition.{Condition}
use Rattle.rule_watch.specs.Lines.{collect}
use Rattle.rule_watch.proofs.Conditions.{collects_more}
use Rattle.rule_watch.proofs.RuleLines.{some_bytes}
use Rattle.rule_watch.proofs.line.collect.Goals as goal

pub loop-alloc-preserved : goal.loop-alloc-preserved
loop-alloc-preserved c =
    let rest : List ℕ = c.loop-alloc.rest in
    let before : List Condition = c.loop-alloc.conditions in
    let more : Condition = c.in_ok-condition.condition in
    let grown : c.push-in-loop-alloc.new.self ≡ before ++ more ∷ [] = c.in_ok-push-2.ensures.ok in
    let some : 0 < length rest = subst (λ (bytes : List ℕ). 0 < length bytes) c.bytes.ensures (some_bytes c.bytes.result.now (sym c.is_empty.ensures ∙ c.loop-alloc-test.true)) in
    let left : 0 < c.loop-alloc.left = omega arith in
    c.loop-alloc.invariant
    ∙ collects_more c.loop-alloc.left c.args.joint before rest c.take_joined.new.rest more left some c.in_ok-condition.ensures
    ∙ ap (λ (cs : List Condition). collect (c.loop-alloc.left - 1) c.args.joint cs c.take_joined.new.rest) (sym grown)
