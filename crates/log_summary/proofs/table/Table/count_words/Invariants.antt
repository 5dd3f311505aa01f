-- The values so far are counted, and those left are to come.
use Rattle.std.proofs.Common.{◌≡◌, fold, length}
use Rattle.log_summary.specs.Tables.{counted}
use Rattle.log_summary.specs.Values.{word_values}
use Rattle.log_summary.proofs.table.Table.count_words.Given as goal

abbrev pub invariant-loop-instance : goal.invariant-loop-instance
invariant-loop-instance l =
    fold counted l.self (word_values l.code l.pmid l.stamp l.left) ≡ fold counted l.initial.self (word_values l.code l.pmid l.stamp l.initial.left)

abbrev pub decreases-loop-instance : goal.decreases-loop-instance
decreases-loop-instance l = length l.left
