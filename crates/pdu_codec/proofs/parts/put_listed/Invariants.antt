-- What is written and what is left make the whole.
use Rattle.std.proofs.Common.{◌≡◌, ◌++◌, ◌+◌, ◌*◌, drop, length}
use Rattle.std.specs.Prelude.{◌↔◌}
use Rattle.std.specs.List.{AllByRecursion}
use Rattle.pdu_codec.specs.Spelling.{all_bytes, all_lengths, instance_bytes, part_length, ListsNumbers}
use Rattle.pdu_codec.proofs.parts.put_listed.Given as goal

abbrev pub invariant-loop-part : goal.invariant-loop-part
invariant-loop-part l = record {
  whole : l.out.items ++ all_bytes instance_bytes (drop l.part-index l.parts) ≡ l.initial.out.items ++ all_bytes instance_bytes l.parts;
  long : length l.out.items + 16 * l.part-index + all_lengths part_length (drop l.part-index l.parts) ≡ length l.initial.out.items + all_lengths part_length l.parts;
  range : AllByRecursion ListsNumbers (drop l.part-index l.parts) ↔ AllByRecursion ListsNumbers l.parts;
}
