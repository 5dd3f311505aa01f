-- The sets so far and those that are left give what all give.
use Rattle.std.proofs.Common.{◌≡◌, ◌-◌, ◌≤◌, length}
use Rattle.pdu_codec.specs.ResultMisfit.{sets_at}
use Rattle.pdu_codec.proofs.misfit.sets_at.Given as goal

abbrev pub invariant-loop-i : goal.invariant-loop-i
invariant-loop-i l = record {
  all : sets_at l.payload (l.count - l.i) l.sets ≡ sets_at l.payload l.fn.count l.fn.before;
  inside : l.sets.at ≤ length l.payload;
}
