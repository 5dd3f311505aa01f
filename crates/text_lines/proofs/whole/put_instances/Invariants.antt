-- What is written and the lines of what is left are the whole.
use Rattle.std.proofs.Common.{◌≡◌, ◌++◌, drop}
use Rattle.text_lines.specs.Whole.{instances_text}
use Rattle.text_lines.proofs.whole.put_instances.Given as goal

abbrev pub invariant-loop-row : goal.invariant-loop-row
invariant-loop-row l = l.initial.out.items ++ instances_text l.serial l.rows ≡ l.out.items ++ instances_text l.serial (drop l.row-index l.rows)
