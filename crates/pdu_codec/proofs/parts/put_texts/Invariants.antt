-- What is written and what is left make the whole.
use Rattle.std.proofs.Common.{◌≡◌, ◌++◌, ◌+◌, ◌≤◌, drop, length}
use Rattle.std.specs.Prelude.{◌↔◌}
use Rattle.std.specs.List.{AllByRecursion}
use Rattle.pdu_codec.specs.Spelling.{all_bytes, all_lengths, text_bytes, text_length, IsShort}
use Rattle.pdu_codec.proofs.parts.put_texts.Given as goal

abbrev pub invariant-loop-text : goal.invariant-loop-text
invariant-loop-text l = record {
  whole : l.out.items ++ all_bytes text_bytes (drop l.text-index l.texts) ≡ l.initial.out.items ++ all_bytes text_bytes l.texts;
  long : length l.out.items + all_lengths text_length (drop l.text-index l.texts) ≡ length l.initial.out.items + all_lengths text_length l.texts;
  few : all_lengths text_length (drop l.text-index l.texts) ≤ 65536;
  range : AllByRecursion IsShort (drop l.text-index l.texts) ↔ AllByRecursion IsShort l.texts;
}
