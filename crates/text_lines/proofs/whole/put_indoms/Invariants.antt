-- What is written and the lines of what is left are the whole.
use Rattle.std.proofs.Common.{◌≡◌, ◌++◌, drop}
use Rattle.text_lines.specs.Whole.{indoms_text}
use Rattle.text_lines.proofs.whole.put_indoms.Given as goal

abbrev pub invariant-loop-row : goal.invariant-loop-row
invariant-loop-row l = l.initial.out.items ++ indoms_text l.rows ≡ l.out.items ++ indoms_text (drop l.row-index l.rows)
