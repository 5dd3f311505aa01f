-- The rows so far.
use Rattle.std.proofs.Common.{take, map}
use Rattle.fetch_answers.specs.Numbers.{HasNumbers, enumeration, subject_of}
use Rattle.fetch_answers.proofs.index.rows_by_item.Given as goal

abbrev pub invariant-loop-number : goal.invariant-loop-number
invariant-loop-number l = HasNumbers l.table (take l.number (enumeration 0 (map subject_of l.rows)))
