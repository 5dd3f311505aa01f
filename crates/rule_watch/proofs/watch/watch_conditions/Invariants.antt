-- The conditions so far, and those that are left.
use Rattle.std.proofs.Common.{◌≡◌, ◌++◌, ◌||◌, ℕ, List, map, reverse, vec_len}
use Rattle.std.specs.Prelude.{bytes_eq}
use Rattle.std.specs.List.{All, list_any}
use Rattle.rule_watch.specs.Groups.{KeepsNumbers}
use Rattle.rule_watch.specs.Rules.{AreConditions}
use Rattle.rule_watch.specs.Watched.{IsFresh, IsKnown}
use Rattle.rule_watch.proofs.watch.watch_conditions.Given as goal

abbrev pub invariant-loop-condition : goal.invariant-loop-condition
invariant-loop-condition l = record {
  conditions : map (λ w. w.condition) l.made.items ++ reverse l.left.items ≡ l.fn.conditions;
  fresh : All IsFresh l.made.items;
  right : AreConditions (reverse l.left.items);
  known : All (IsKnown l.groups.names) l.made.items;
  keeps : KeepsNumbers l.initial.groups.names l.groups.names;
  named : (name : List ℕ) → list_any (bytes_eq name) l.groups.names ≡ (list_any (bytes_eq name) l.initial.groups.names || list_any (λ w. bytes_eq name w.condition.name) l.made.items);
}

abbrev pub decreases-loop-condition : goal.decreases-loop-condition
decreases-loop-condition l = vec_len l.left
