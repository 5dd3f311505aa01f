-- What is written and the lines of what is left are the whole.
use Rattle.std.proofs.Common.{◌≡◌, ◌++◌, drop}
use Rattle.text_lines.specs.Whole.{values_text}
use Rattle.text_lines.proofs.whole.put_values.Given as goal

abbrev pub invariant-loop-row : goal.invariant-loop-row
invariant-loop-row l = l.initial.out.items ++ values_text l.metrics l.rows ≡ l.out.items ++ values_text l.metrics (drop l.row-index l.rows)
