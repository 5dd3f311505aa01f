-- The offsets so far and those that are left give what all give.
use Rattle.std.proofs.Common.{◌≡◌, ◌+◌, ◌-◌, ◌*◌, ◌≤◌, length}
use Rattle.pdu_codec.specs.ResultMisfit.{offsets_from}
use Rattle.pdu_codec.proofs.misfit.offsets_from.Given as goal

abbrev pub invariant-loop : goal.invariant-loop
invariant-loop l = record {
  all : offsets_from l.payload l.end l.blocks (l.count - l.counter) l.at ≡ offsets_from l.payload l.fn.end l.fn.before l.fn.count l.fn.from;
  here : l.at ≡ l.fn.from + 8 * l.counter;
  inside : l.at ≤ length l.payload;
}
