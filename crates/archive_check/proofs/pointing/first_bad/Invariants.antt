use Rattle.std.proofs.Common.{◌≡◌, false, take}
use Rattle.std.specs.List.{AllByRecursion}
use Rattle.archive_check.specs.Looked.{look_of, is_bad}
use Rattle.archive_check.specs.Marks.{mark_at}
use Rattle.archive_check.proofs.pointing.first_bad.Given as goal

abbrev pub invariant-loop-at : goal.invariant-loop-at
invariant-loop-at l = AllByRecursion (λ e. is_bad l.late (look_of (mark_at l.marks) l.top e) e.stamp ≡ false) (take l.at l.index)
