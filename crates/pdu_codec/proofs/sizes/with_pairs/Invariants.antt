-- What was added and what is left make the whole.
use Rattle.std.proofs.Common.{◌≡◌, ◌+◌, ◌≤◌, drop}
use Rattle.std.specs.Prelude.{min}
use Rattle.pdu_codec.specs.Spelling.{all_lengths, pair_length}
use Rattle.pdu_codec.proofs.sizes.with_pairs.Given as goal

abbrev pub invariant-loop-name : goal.invariant-loop-name
invariant-loop-name l = record {
  same : min (l.total + all_lengths pair_length (drop l.name-index l.pairs)) 18446744073709551615 ≡ min (l.initial.total + all_lengths pair_length l.pairs) 18446744073709551615;
  few : l.total ≤ 18446744073709551615;
}
