-- The rows so far are put behind, and those left are to come.
use Rattle.std.proofs.Common.{◌≡◌, fold}
use Rattle.log_summary.specs.Tables.{put}
use Rattle.log_summary.proofs.table.Table.merge.Given as goal

abbrev pub invariant-loop-key : goal.invariant-loop-key
invariant-loop-key l = fold put l.self l.key-iterator ≡ fold put l.initial.self l.fn.other
