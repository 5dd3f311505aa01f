-- The metrics so far and those that are left are all.
use Rattle.std.proofs.Common.{◌≡◌, ◌++◌, drop}
use Rattle.archive_meta.specs.Missing.{undescribed_metrics}
use Rattle.archive_meta.proofs.state.MetaState.undescribed_metrics.Given as goal

abbrev pub invariant-loop-set : goal.invariant-loop-set
invariant-loop-set l = l.keys ++ undescribed_metrics l.self (drop l.set-index l.sets) ≡ undescribed_metrics l.self l.sets
