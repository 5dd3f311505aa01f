-- What was added and what is left make the whole.
use Rattle.std.proofs.Common.{◌≡◌, ◌+◌, ◌≤◌, drop}
use Rattle.std.specs.Prelude.{min}
use Rattle.pdu_codec.specs.Spelling.{all_lengths, text_length}
use Rattle.pdu_codec.proofs.sizes.with_texts.Given as goal

abbrev pub invariant-loop-text : goal.invariant-loop-text
invariant-loop-text l = record {
  same : min (l.total + all_lengths text_length (drop l.text-index l.texts)) 18446744073709551615 ≡ min (l.initial.total + all_lengths text_length l.texts) 18446744073709551615;
  few : l.total ≤ 18446744073709551615;
}
