use Rattle.std.proofs.Common.{◌≡◌, drop}
use Rattle.archive_merge.specs.Facts.{first_clash}
use Rattle.archive_merge.proofs.misfits.first_clash.Given as goal

abbrev pub invariant-loop-set : goal.invariant-loop-set
invariant-loop-set l = first_clash l.first l.second l.t l.used.keys (drop l.set-index l.sets) ≡ first_clash l.first l.second l.t l.used.keys l.sets
