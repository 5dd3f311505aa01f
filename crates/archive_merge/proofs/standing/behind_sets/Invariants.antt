-- The metrics up to here are those of the sets so far, none of which lacks anything.
use Rattle.std.proofs.Common.{◌≡◌, ◌++◌, take, drop}
use Rattle.archive_merge.specs.Facts.{facts_about, first_lacking}
use Rattle.archive_merge.proofs.standing.behind_sets.Given as goal

abbrev pub invariant-loop-set : goal.invariant-loop-set
invariant-loop-set l =
    (take l.at l.metrics ++ facts_about l.meta (drop l.set-index l.sets) ≡ take l.from l.metrics ++ facts_about l.meta l.sets)
    × (first_lacking l.meta l.t (drop l.set-index l.sets) ≡ first_lacking l.meta l.t l.sets)
