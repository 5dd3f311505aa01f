-- The set's names are those that callers see.
use Rattle.std.proofs.Common.{ℕ, ap, ◌∙◌}
use Rattle.std.specs.Prelude.{bytes_eq}
use Rattle.std.specs.List.{list_any}
use Rattle.std.specs.Global.{Vec}
use Rattle.rule_watch.specs.Groups.{Grouped}
use Rattle.rule_watch.proofs.GroupValues.{any_map}
use Rattle.rule_watch.proofs.groups.Groups.has.Goals as goal

pub returns : goal.returns
returns c =
    c.contains.ensures
    ∙ any_map (λ (key : Vec ℕ). key.items) (bytes_eq c.args.name.now) c.self.inside.names.keys
    ∙ ap (λ (g : Grouped). list_any (bytes_eq c.args.name.now) g.names) c.self.view_is
