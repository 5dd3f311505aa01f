use Rattle.std.proofs.Common.{◌≡◌, length}
use Rattle.archive_reader.specs.Values.{first_shown}
use Rattle.archive_reader.proofs.values.has_shown.Given as goal

abbrev pub invariant-loop-set : goal.invariant-loop-set
invariant-loop-set l = record {
  same : first_shown l.pmid l.left ≡ first_shown l.pmid l.fn.sets;
}

abbrev pub decreases-loop-set : goal.decreases-loop-set
decreases-loop-set l = length l.left
