-- The lines so far, with those of the rows that are left, are the lines of all rows.
use Rattle.std.proofs.Common.{◌≡◌, fold}
use Rattle.log_summary.specs.Lines.{with_line, lines_of}
use Rattle.log_summary.specs.Listed.{listed_lines}
use Rattle.log_summary.proofs.lines.lines_of.Given as goal

abbrev pub invariant-loop-key : goal.invariant-loop-key
invariant-loop-key l = fold (with_line l.meta) (listed_lines l.lines) l.key-iterator ≡ lines_of l.meta l.table
