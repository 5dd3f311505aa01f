-- The sample's row is handed to the watch, and what that answers is told.
use Rattle.std.proofs.Common.{ℕ, List, ap, ◌∙◌, subst}
use Rattle.rule_watch.specs.declared.rule.Rule.{Rule}
use Rattle.rule_watch.specs.Laws.{watched_row}
use Rattle.rule_watch.specs.Rows.{Row}
use Rattle.rule_watch.specs.Shown.{Answers, rules_of}
use Rattle.rule_watch.proofs.Lacking.{rows_may_lack}
use Rattle.pm_tasks.specs.Telling.{TellsMore, TellsRow, firings_of}
use Rattle.pm_tasks.specs.Rows.{row_of}
use Rattle.pm_tasks.proofs.Firings.{on_ok}
use Rattle.pm_tasks.proofs.commands.watch.tell_sample.Goals as goal

pub returns : goal.returns
returns c =
    let t = c.args.sample.now.stamp in
    let numbers : List ℕ = c.in_ok-numbers.numbers in
    on_ok (TellsMore (firings_of t (rules_of c.push.new.self) c.as_slice-2.result.now) c.args.told.now c.tell_rules.new.told)
    (TellsRow t (row_of c.args.meta.now c.args.sample.now.sets) c.args.watch.now c.push.new.self c.args.told.now c.tell_rules.new.told) c.tell_rules.result
    (λ more. record {
      numbers = numbers;
      answers = rows_may_lack c.args.watch.now c.push.new.self (row_of c.args.meta.now c.args.sample.now.sets) numbers c.in_ok-numbers.ensures.rules
          (subst (λ (row : Row). Answers c.args.watch.now row c.push.new.self numbers) (c.in_ok-row.ensures.row ∙ ap (λ sets. watched_row (rules_of c.args.watch.now) (row_of c.args.meta.now sets)) c.as_slice.ensures) c.in_ok-numbers.ensures.ok);
      rules = c.in_ok-numbers.ensures.rules;
      more = subst (λ (rs : List Rule). TellsMore (firings_of t rs numbers) c.args.told.now c.tell_rules.new.told) c.in_ok-numbers.ensures.rules
          (subst (λ (ns : List ℕ). TellsMore (firings_of t (rules_of c.push.new.self) ns) c.args.told.now c.tell_rules.new.told) c.as_slice-2.ensures more);
    })
    c.tell_rules.ensures
