-- The numbers of the pairs so far.
use Rattle.std.proofs.Common.{take}
use Rattle.archive_merge.specs.Facts.{HasNumbers}
use Rattle.archive_merge.proofs.lists.numbers_of.Given as goal

abbrev pub invariant-loop-number : goal.invariant-loop-number
invariant-loop-number l = HasNumbers l.numbers (take l.number-index l.pairs)
