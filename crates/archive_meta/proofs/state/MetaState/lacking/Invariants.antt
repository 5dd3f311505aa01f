-- The records that are missing so far and those that still are are all.
use Rattle.std.proofs.Common.{drop}
use Rattle.archive_meta.proofs.Lacking.{SoFar}
use Rattle.archive_meta.proofs.state.MetaState.lacking.Given as goal

abbrev pub invariant-loop-position : goal.invariant-loop-position
invariant-loop-position l = SoFar l.self l.t l.domains l.positions (drop l.position-index l.positions) l.left
