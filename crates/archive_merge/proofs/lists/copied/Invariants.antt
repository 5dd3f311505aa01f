use Rattle.std.proofs.Common.{◌≡◌, take}
use Rattle.archive_merge.proofs.lists.copied.Given as goal

abbrev pub invariant-loop-at : goal.invariant-loop-at
invariant-loop-at l = l.made ≡ take l.at l.pairs
