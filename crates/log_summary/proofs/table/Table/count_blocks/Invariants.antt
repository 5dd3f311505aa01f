-- The values so far are counted, and those left are to come.
use Rattle.std.proofs.Common.{◌≡◌, fold, length}
use Rattle.log_summary.specs.Tables.{counted}
use Rattle.log_summary.specs.Values.{block_values}
use Rattle.log_summary.proofs.table.Table.count_blocks.Given as goal

abbrev pub invariant-loop-instance : goal.invariant-loop-instance
invariant-loop-instance l =
    fold counted l.self (block_values l.code l.pmid l.stamp l.left) ≡ fold counted l.initial.self (block_values l.code l.pmid l.stamp l.initial.left)

abbrev pub decreases-loop-instance : goal.decreases-loop-instance
decreases-loop-instance l = length l.left
