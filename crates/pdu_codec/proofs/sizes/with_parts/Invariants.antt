-- What was added and what is left make the whole.
use Rattle.std.proofs.Common.{◌≡◌, ◌+◌, ◌≤◌, drop}
use Rattle.std.specs.Prelude.{min}
use Rattle.pdu_codec.specs.Spelling.{all_lengths, part_length}
use Rattle.pdu_codec.proofs.sizes.with_parts.Given as goal

abbrev pub invariant-loop-part : goal.invariant-loop-part
invariant-loop-part l = record {
  same : min (l.total + all_lengths part_length (drop l.part-index l.parts)) 18446744073709551615 ≡ min (l.initial.total + all_lengths part_length l.parts) 18446744073709551615;
  few : l.total ≤ 18446744073709551615;
}
