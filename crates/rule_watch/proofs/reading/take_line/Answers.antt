-- The rule may be written, and its label is new.
use Rattle.std.proofs.Common.{◌≡◌, ◌<◌, false, List, length, sym, ap, ◌∙◌, subst, arith}
use Rattle.rule_watch.specs.declared.rule.Rule.{Rule}
use Rattle.rule_watch.specs.Rules.{AreRules, has_label}
use Rattle.rule_watch.proofs.Labels.{with_another}
use Rattle.rule_watch.proofs.RulesWritten.{rules_written}
use Rattle.rule_watch.proofs.reading.take_line.Goals as goal

pub returns-clause-rules : goal.returns-clause-rules
returns-clause-rules c =
    let rules : List Rule = c.args.rules.now in
    let rule : Rule = c.in_ok-rule.rule in
    let new : has_label rules rule.label ≡ false = ap (λ rs. has_label rs rule.label) (sym c.as_slice.ensures) ∙ sym c.has_label.ensures ∙ c.if-has_label.false in
    let room : length rules < 64 = omega arith in
    subst AreRules (sym c.in_ok-push.ensures.ok) (with_another rules rule c.requires (rules_written c.args.line.now rule c.in_ok-rule.ensures) new room)
