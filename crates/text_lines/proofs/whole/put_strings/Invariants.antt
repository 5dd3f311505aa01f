-- What is written and the lines of what is left are the whole.
use Rattle.std.proofs.Common.{◌≡◌, ◌++◌, drop}
use Rattle.text_lines.specs.Whole.{strings_text}
use Rattle.text_lines.proofs.whole.put_strings.Given as goal

abbrev pub invariant-loop-text : goal.invariant-loop-text
invariant-loop-text l = l.initial.out.items ++ strings_text l.strings ≡ l.out.items ++ strings_text (drop l.text-index l.strings)
