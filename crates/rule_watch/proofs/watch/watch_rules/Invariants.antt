-- The rules so far, and those that are left.
use Rattle.std.proofs.Common.{◌≡◌, ◌++◌, ℕ, List, map, reverse, vec_len}
use Rattle.std.specs.Prelude.{bytes_eq}
use Rattle.std.specs.List.{All, AllByRecursion, list_any}
use Rattle.rule_watch.specs.Rules.{IsWritten, is_watched}
use Rattle.rule_watch.specs.Watched.{IsFreshRule, IsKnownRule, rule_of}
use Rattle.rule_watch.proofs.watch.watch_rules.Given as goal

abbrev pub invariant-loop-rule : goal.invariant-loop-rule
invariant-loop-rule l = record {
  rules : map rule_of l.made.items ++ reverse l.left.items ≡ l.fn.rules;
  fresh : All IsFreshRule l.made.items;
  right : AllByRecursion IsWritten (reverse l.left.items);
  known : All (IsKnownRule l.groups.names) l.made.items;
  named : (name : List ℕ) → list_any (bytes_eq name) l.groups.names ≡ is_watched (map rule_of l.made.items) name;
}

abbrev pub decreases-loop-rule : goal.decreases-loop-rule
decreases-loop-rule l = vec_len l.left
