-- The parts so far and those that are left are all.
use Rattle.std.proofs.Common.{◌≡◌, ◌≤◌, drop, length}
use Rattle.pdu_codec.specs.Reading.{parts_at}
use Rattle.pdu_codec.proofs.Loops.{with_front}
use Rattle.pdu_codec.proofs.lists.parts_at.Given as goal

abbrev pub invariant-loop-head : goal.invariant-loop-head
invariant-loop-head l = record {
  all : with_front l.parts (parts_at l.bytes (drop l.head-index l.heads) l.at) ≡ parts_at l.bytes l.heads l.from;
  inside : l.at ≤ length l.bytes;
}
