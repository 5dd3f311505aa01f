-- The rules before the index took the row, and the others are as they were.
use Rattle.std.proofs.Common.{◌≡◌, ℕ, ◌<◌, ◌≤◌, get_or}
use Rattle.rule_watch.specs.declared.watched.WatchedRule.{WatchedRule}
use Rattle.rule_watch.specs.Watched.{TakesGroup, Turns}
use Rattle.rule_watch.proofs.watch.take_rows.Given as goal

abbrev pub invariant-loop-rule : goal.invariant-loop-rule
invariant-loop-rule l = record {
  takes : (k : ℕ) (d : WatchedRule) → k < l.rule-index → Turns (TakesGroup l.groups.groups) (get_or l.initial.rules k d) (get_or l.rules k d);
  same : (k : ℕ) (d : WatchedRule) → l.rule-index ≤ k → get_or l.rules k d ≡ get_or l.initial.rules k d;
}
