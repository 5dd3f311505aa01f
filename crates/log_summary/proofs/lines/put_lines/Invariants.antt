-- What is written and the lines that are left are the whole.
use Rattle.std.proofs.Common.{◌≡◌, ◌++◌, map}
use Rattle.log_summary.specs.Lines.{lines_text}
use Rattle.log_summary.specs.Listed.{line}
use Rattle.log_summary.proofs.lines.put_lines.Given as goal

abbrev pub invariant-loop-line : goal.invariant-loop-line
invariant-loop-line l =
    (goal.iterator-loop-line).can_next l.rest × (goal.iterator-loop-line).is_finite l.rest
    × (l.initial.out.items ++ lines_text (map line l.initial.rest) ≡ l.out.items ++ lines_text (map line l.rest))
