use Rattle.std.proofs.Common.{◌≡◌, ◌≤◌, ◌-◌, length, drop}
use Rattle.archive_reader.specs.Walks.{volumes_from}
use Rattle.log_export.proofs.walking.first_from.Given as goal

abbrev pub invariant-loop-index : goal.invariant-loop-index
invariant-loop-index l = record {
  within : l.index ≤ length l.volumes;
  same : volumes_from l.number (drop l.index l.volumes) ≡ volumes_from l.number l.volumes;
}

abbrev pub decreases-loop-index : goal.decreases-loop-index
decreases-loop-index l = length l.volumes - l.index
