use Rattle.std.proofs.Common.{◌≡◌, ◌≤◌, ◌-◌, length, drop}
use Rattle.archive_reader.specs.Values.{first_shown}
use Rattle.archive_reader.proofs.values.first_shown.Given as goal

abbrev pub invariant-loop-index : goal.invariant-loop-index
invariant-loop-index l = record {
  within : l.index ≤ length l.sets;
  same : first_shown l.pmid (drop l.index l.sets) ≡ first_shown l.pmid l.sets;
}

abbrev pub decreases-loop-index : goal.decreases-loop-index
decreases-loop-index l = length l.sets - l.index
