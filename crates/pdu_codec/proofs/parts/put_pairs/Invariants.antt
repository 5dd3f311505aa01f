-- What is written and what is left make the whole.
use Rattle.std.proofs.Common.{◌≡◌, ◌++◌, ◌+◌, ◌≤◌, drop, length}
use Rattle.std.specs.Prelude.{◌↔◌}
use Rattle.std.specs.List.{AllByRecursion}
use Rattle.pdu_codec.specs.Spelling.{all_bytes, all_lengths, pair_bytes, pair_length, IsPair}
use Rattle.pdu_codec.proofs.parts.put_pairs.Given as goal

abbrev pub invariant-loop-pair : goal.invariant-loop-pair
invariant-loop-pair l = record {
  whole : l.out.items ++ all_bytes pair_bytes (drop l.pair-index l.pairs) ≡ l.initial.out.items ++ all_bytes pair_bytes l.pairs;
  long : length l.out.items + all_lengths pair_length (drop l.pair-index l.pairs) ≡ length l.initial.out.items + all_lengths pair_length l.pairs;
  few : all_lengths pair_length (drop l.pair-index l.pairs) ≤ 65536;
  range : AllByRecursion IsPair (drop l.pair-index l.pairs) ↔ AllByRecursion IsPair l.pairs;
}
