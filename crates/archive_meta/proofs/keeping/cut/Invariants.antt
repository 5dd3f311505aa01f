-- The first so many stay, and what is kept beside the records fits them.
use Rattle.std.proofs.Common.{◌≡◌, length, take}
use Rattle.archive_meta.specs.Kept.{IsState}
use Rattle.archive_meta.specs.Woven.{with_other_records}
use Rattle.archive_meta.proofs.keeping.cut.Given as goal

abbrev pub invariant-loop-left : goal.invariant-loop-left
invariant-loop-left l = record {
  state : IsState l.records l.marks l.descriptions l.moments;
  front : take l.count (with_other_records l.marks l.records) ≡ take l.count (with_other_records l.initial.marks l.initial.records);
  size : l.left ≡ length l.marks;
}

abbrev pub decreases-loop-left : goal.decreases-loop-left
decreases-loop-left l = l.left
