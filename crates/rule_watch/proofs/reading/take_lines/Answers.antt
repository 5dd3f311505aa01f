-- The lines end, stop or go on.
use Rattle.std.proofs.Common.{◌≡◌, ℕ, ◌+◌, List, length, Err, sym, ap, ◌∙◌, subst}
use Rattle.std.proofs.lemmas.Bool.{eqb-true}
use Rattle.text_lines.specs.Lines.{lines_of}
use Rattle.rule_watch.specs.declared.rule.Rule.{Rule}
use Rattle.rule_watch.specs.Lines.{rule_of}
use Rattle.rule_watch.specs.Reading.{Answers, rules_of, with_lines}
use Rattle.rule_watch.specs.Rules.{AreRules}
use Rattle.rule_watch.proofs.RuleLines.{line_goes_on, lines_end, one_more, refused, some_bytes, starts, unended_fault}
use Rattle.rule_watch.proofs.Labels.{no_rules}
use Rattle.rule_watch.proofs.reading.take_lines.Goals as goal

pub loop-rest-init : goal.loop-rest-init
loop-rest-init c = record {
  leads = starts c.args.text.now ∙ ap (λ (rs : List Rule). with_lines (lines_of c.args.text.now) (length rs + 1) rs) (sym c.empty-rules.ensures);
  rules = subst AreRules (sym c.empty-rules.ensures) no_rules;
}

pub returns-in_default-clause-read : goal.returns-in_default-clause-read
returns-in_default-clause-read c =
    let rules : List Rule = c.loop-rest.rules in
    let number : ℕ = c.len.result + 1 in
    subst (λ e. Answers (rules_of c.args.text.now) (Err e)) (sym c.on.ensures)
    (c.loop-rest.invariant.leads
    ∙ ap (λ n. with_lines (lines_of c.loop-rest.rest.now) (n + 1) rules) (sym c.len.ensures)
    ∙ unended_fault c.loop-rest.rest.now number rules c.in_default.ensures (some_bytes c.loop-rest.rest.now (sym c.is_empty.ensures ∙ c.loop-rest-test.true)))

pub returns-in-Err-clause-read : goal.returns-in-Err-clause-read
returns-in-Err-clause-read c =
    let rules : List Rule = c.loop-rest.rules in
    let number : ℕ = c.len.result + 1 in
    subst (λ e. Answers (rules_of c.args.text.now) (Err e)) (sym c.on-in-Err.ensures)
    (refused c.loop-rest.rest.now number rules c.in-Some.line.now c.in-Some.behind.now c.in-Some.ensures (rules_of c.args.text.now) c.take_line.new.rules c.in-Err.stop
    (c.loop-rest.invariant.leads ∙ ap (λ n. with_lines (lines_of c.loop-rest.rest.now) (n + 1) rules) (sym c.len.ensures)) c.in-Err.ensures.step)

pub loop-rest-preserved : goal.loop-rest-preserved
loop-rest-preserved c =
    let rules : List Rule = c.loop-rest.rules in
    let later : List Rule = c.take_line.new.rules in
    let long : length later ≡ length rules + 1 = one_more rules later (rule_of c.in-Some.line.now) c.in-Ok.ensures.step in
    record {
      leads = c.loop-rest.invariant.leads
          ∙ line_goes_on c.loop-rest.rest.now (length rules + 1) rules c.in-Some.line.now c.in-Some.behind.now c.in-Some.ensures later c.in-Ok.ensures.step
          ∙ ap (λ n. with_lines (lines_of c.in-Some.behind.now) (n + 1) later) (sym long);
      rules = c.in-Ok.ensures.rules;
    }

pub returns-clause-read : goal.returns-clause-read
returns-clause-read c =
    c.loop-rest.invariant.leads
    ∙ lines_end c.loop-rest.rest.now (length c.loop-rest.rules + 1) c.loop-rest.rules (eqb-true (length c.loop-rest.rest.now) 0 (sym c.is_empty.ensures ∙ c.loop-rest-test.false))
