use Rattle.std.proofs.Common.{◌≡◌}
use Rattle.std.specs.Vec.Iter.{into_iter_items}
use Rattle.archive_merge.specs.Merging.{with_sets}
use Rattle.archive_merge.proofs.sets.StampSets.with_all.Given as goal

abbrev pub invariant-loop-set : goal.invariant-loop-set
invariant-loop-set l = with_sets l.all (into_iter_items l.set-iterator) ≡ with_sets l.fn.self l.fn.more
