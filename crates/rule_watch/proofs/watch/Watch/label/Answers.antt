-- The rules stand as the watch keeps them.
use Rattle.std.proofs.Common.{sym, ap, ◌∙◌}
use Rattle.std.specs.Prelude.{slice_get}
use Rattle.std.specs.Option.{option_map}
use Rattle.rule_watch.specs.declared.rule.Rule.{Rule}
use Rattle.rule_watch.specs.declared.watched.WatchedRule.{WatchedRule}
use Rattle.rule_watch.specs.Shown.{rules_of}
use Rattle.rule_watch.proofs.Watching.{label_at}
use Rattle.rule_watch.proofs.watch.Watch.label.Goals as goal

pub returns-in-Some : goal.returns-in-Some
returns-in-Some c =
    ap (option_map (λ (w : WatchedRule). w.label)) (c.in-Some.ensures ∙ ap (λ rules. slice_get rules c.args.number) c.deref.ensures.value)
    ∙ sym (label_at c.self.inside.rules.items c.args.number)
    ∙ ap (λ kept. option_map (λ (r : Rule). r.label) (slice_get (rules_of kept) c.args.number)) c.self.view_is

pub returns-in-None : goal.returns-in-None
returns-in-None c =
    ap (option_map (λ (w : WatchedRule). w.label)) (c.in-None.ensures ∙ ap (λ rules. slice_get rules c.args.number) c.deref.ensures.value)
    ∙ sym (label_at c.self.inside.rules.items c.args.number)
    ∙ ap (λ kept. option_map (λ (r : Rule). r.label) (slice_get (rules_of kept) c.args.number)) c.self.view_is
