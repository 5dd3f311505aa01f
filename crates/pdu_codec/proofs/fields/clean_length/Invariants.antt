-- The bytes so far have no zero byte among them.
use Rattle.std.proofs.Common.{◌≡◌, ◌+◌, drop}
use Rattle.pdu_codec.specs.Reading.{clean_length}
use Rattle.pdu_codec.proofs.fields.clean_length.Given as goal

abbrev pub invariant-loop-byte : goal.invariant-loop-byte
invariant-loop-byte l = record {
  count : l.count ≡ l.byte-index;
  behind : clean_length l.bytes ≡ l.count + clean_length (drop l.byte-index l.bytes);
}
