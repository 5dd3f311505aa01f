-- Each entry from here on is passed by.
use Rattle.std.proofs.Common.{◌≤◌, length, drop}
use Rattle.std.specs.List.{AllByRecursion}
use Rattle.pcp_base.specs.Time.{microseconds}
use Rattle.temporal_index.proofs.index.last_before.Given as goal

abbrev pub invariant-loop-left : goal.invariant-loop-left
invariant-loop-left l = record {
  within : l.left ≤ length l.entries;
  passed : AllByRecursion (λ e. l.time ≤ microseconds e.stamp) (drop l.left l.entries);
}

abbrev pub decreases-loop-left : goal.decreases-loop-left
decreases-loop-left l = l.left
