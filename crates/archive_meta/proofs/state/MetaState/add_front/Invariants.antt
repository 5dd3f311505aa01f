-- The records up to here were added.
use Rattle.std.proofs.Common.{◌-◌, ◌≤◌, length, take}
use Rattle.archive_meta.specs.Records.{Adds}
use Rattle.archive_meta.proofs.state.MetaState.add_front.Given as goal

abbrev pub invariant-loop-at : goal.invariant-loop-at
invariant-loop-at l = record {
  added : Adds l.initial.self (take l.at l.bytes) l.self;
  within : l.at ≤ length l.bytes;
}

abbrev pub decreases-loop-at : goal.decreases-loop-at
decreases-loop-at l = length l.bytes - l.at
