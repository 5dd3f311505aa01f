-- What is written and the lines of what is left are the whole.
use Rattle.std.proofs.Common.{◌≡◌, ◌++◌, drop}
use Rattle.text_lines.specs.Whole.{metrics_text}
use Rattle.text_lines.proofs.whole.put_metrics.Given as goal

abbrev pub invariant-loop-row : goal.invariant-loop-row
invariant-loop-row l = l.initial.out.items ++ metrics_text l.rows ≡ l.out.items ++ metrics_text (drop l.row-index l.rows)
