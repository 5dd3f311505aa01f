-- What was read so far and what is left are all.
use Rattle.std.proofs.Common.{◌≡◌, ◌-◌, ◌≤◌, length}
use Rattle.pdu_codec.specs.Reading.{many}
use Rattle.pdu_codec.proofs.Loops.{with_front}
use Rattle.pdu_codec.proofs.lists.many.Given as goal

abbrev pub invariant-loop : goal.invariant-loop
invariant-loop g l = record {
  all : with_front l.items (many g.P.Part.reading l.bytes (l.count - l.counter) l.at) ≡ many g.P.Part.reading l.bytes l.count l.from;
  inside : l.at ≤ length l.bytes;
}
