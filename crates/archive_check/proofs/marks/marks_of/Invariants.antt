use Rattle.std.proofs.Common.{take}
use Rattle.std.specs.List.{AllByRecursion}
use Rattle.archive_check.specs.Marks.{mark_at, IsPut}
use Rattle.archive_check.proofs.marks.marks_of.Given as goal

abbrev pub invariant-loop-at : goal.invariant-loop-at
invariant-loop-at l = AllByRecursion (IsPut (mark_at l.marks)) (take l.at l.index)
