-- What is written and the escapes of what is left are the whole.
use Rattle.std.proofs.Common.{◌≡◌, ◌++◌, drop}
use Rattle.text_lines.specs.Spelling.{escapes}
use Rattle.text_lines.proofs.writing.put_escapes.Given as goal

abbrev pub invariant-loop-byte : goal.invariant-loop-byte
invariant-loop-byte l = l.initial.out.items ++ escapes l.text ≡ l.out.items ++ escapes (drop l.byte-index l.text)
