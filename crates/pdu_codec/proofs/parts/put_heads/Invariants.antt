-- What is written and what is left make the whole.
use Rattle.std.proofs.Common.{◌≡◌, ◌++◌, ◌+◌, ◌*◌, ◌≤◌, drop, length}
use Rattle.std.specs.Prelude.{◌↔◌}
use Rattle.std.specs.List.{AllByRecursion}
use Rattle.pdu_codec.specs.Spelling.{all_bytes, all_lengths, head_bytes, part_length, IsHead}
use Rattle.pdu_codec.proofs.parts.put_heads.Given as goal

abbrev pub invariant-loop-part : goal.invariant-loop-part
invariant-loop-part l = record {
  whole : l.out.items ++ all_bytes head_bytes (drop l.part-index l.parts) ≡ l.initial.out.items ++ all_bytes head_bytes l.parts;
  long : length l.out.items ≡ length l.initial.out.items + 16 * l.part-index;
  few : all_lengths part_length (drop l.part-index l.parts) ≤ 65536;
  range : AllByRecursion IsHead (drop l.part-index l.parts) ↔ AllByRecursion IsHead l.parts;
}
