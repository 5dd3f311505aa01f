-- The names are those that the rules speak of.
use Rattle.std.proofs.Common.{List, sym, ap, ◌∙◌}
use Rattle.rule_watch.specs.Rules.{is_watched}
use Rattle.rule_watch.specs.Shown.{KeptRule, rules_of}
use Rattle.rule_watch.proofs.Watching.{rules_seen}
use Rattle.rule_watch.proofs.watch.Watch.watches.Goals as goal

pub returns : goal.returns
returns c =
    c.has.ensures
    ∙ c.self.invariant.named c.args.name.now
    ∙ ap (λ rules. is_watched rules c.args.name.now) (sym (rules_seen c.self.inside.rules.items))
    ∙ ap (λ (kept : List KeptRule). is_watched (rules_of kept) c.args.name.now) c.self.view_is
