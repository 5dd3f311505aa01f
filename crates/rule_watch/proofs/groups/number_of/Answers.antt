-- The place of the name among those of the set.
use Rattle.std.proofs.Common.{ℕ, ◌∙◌}
use Rattle.std.specs.Prelude.{bytes_eq}
use Rattle.std.specs.Global.{Vec}
use Rattle.rule_watch.proofs.GroupValues.{any_map, position_map}
use Rattle.rule_watch.proofs.groups.number_of.Goals as goal

pub returns-clause-number : goal.returns-clause-number
returns-clause-number c = c.get_index_of.ensures.index ∙ position_map (λ (key : Vec ℕ). key.items) (bytes_eq c.args.name.now) c.args.names.now.keys

pub returns-clause-found : goal.returns-clause-found
returns-clause-found c = c.get_index_of.ensures.found ∙ any_map (λ (key : Vec ℕ). key.items) (bytes_eq c.args.name.now) c.args.names.now.keys
