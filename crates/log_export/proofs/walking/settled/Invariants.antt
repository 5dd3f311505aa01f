use Rattle.std.proofs.Common.{◌≡◌, ◌≤◌, ◌-◌, length, drop}
use Rattle.archive_reader.specs.Walks.{next_offset}
use Rattle.log_export.proofs.walking.settled.Given as goal

abbrev pub invariant-loop-index : goal.invariant-loop-index
invariant-loop-index l = record {
  within : l.index ≤ length l.volumes;
  offset : next_offset (drop l.index l.volumes) l.at ≡ next_offset (drop l.initial.index l.volumes) l.initial.at;
}

abbrev pub decreases-loop-index : goal.decreases-loop-index
decreases-loop-index l = length l.volumes - l.index
