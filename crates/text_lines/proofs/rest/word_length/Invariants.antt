-- The bytes so far have no space among them.
use Rattle.std.proofs.Common.{◌≡◌, ◌+◌, drop}
use Rattle.text_lines.specs.Words.{word_length}
use Rattle.text_lines.proofs.rest.word_length.Given as goal

abbrev pub invariant-loop-byte : goal.invariant-loop-byte
invariant-loop-byte l = record {
  count : l.count ≡ l.byte-index;
  behind : word_length l.bytes ≡ l.count + word_length (drop l.byte-index l.bytes);
}
