-- The conditions before the index are ready, and the others are as they were.
use Rattle.std.proofs.Common.{◌≡◌, ℕ, ◌<◌, ◌≤◌, get_or}
use Rattle.rule_watch.specs.declared.watched.WatchedCondition.{WatchedCondition}
use Rattle.rule_watch.specs.Watched.{IsReady, Stays}
use Rattle.rule_watch.proofs.watched.prepare_all.Given as goal

abbrev pub invariant-loop-watched : goal.invariant-loop-watched
invariant-loop-watched l = record {
  stays : (k : ℕ) (d : WatchedCondition) → k < l.watched-index → Stays (get_or l.initial.conditions k d) (get_or l.conditions k d);
  ready : (k : ℕ) (d : WatchedCondition) → k < l.watched-index → IsReady l.groups.groups (get_or l.conditions k d);
  same : (k : ℕ) (d : WatchedCondition) → l.watched-index ≤ k → get_or l.conditions k d ≡ get_or l.initial.conditions k d;
}
