-- The sets so far are counted, and those left are to come.
use Rattle.std.proofs.Common.{◌≡◌, fold, length}
use Rattle.log_summary.specs.Tables.{counted}
use Rattle.log_summary.specs.Values.{sets_values}
use Rattle.log_summary.proofs.table.Table.count_sets.Given as goal

abbrev pub invariant-loop-set : goal.invariant-loop-set
invariant-loop-set l =
    fold counted l.self (sets_values l.meta l.stamp l.left) ≡ fold counted l.initial.self (sets_values l.meta l.stamp l.initial.left)

abbrev pub decreases-loop-set : goal.decreases-loop-set
decreases-loop-set l = length l.left
