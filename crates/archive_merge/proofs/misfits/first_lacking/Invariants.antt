use Rattle.std.proofs.Common.{◌≡◌, drop}
use Rattle.archive_merge.specs.Facts.{first_lacking}
use Rattle.archive_merge.proofs.misfits.first_lacking.Given as goal

abbrev pub invariant-loop-set : goal.invariant-loop-set
invariant-loop-set l = first_lacking l.meta l.t (drop l.set-index l.sets) ≡ first_lacking l.meta l.t l.sets
