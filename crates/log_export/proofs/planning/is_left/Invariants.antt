-- The volumes so far are others.
use Rattle.std.proofs.Common.{◌≡◌, ◌≤◌, ◌-◌, length, drop}
use Rattle.archive_loading.specs.Loaded.{numbers}
use Rattle.log_export.specs.Exported.{is_one_of}
use Rattle.log_export.proofs.planning.is_left.Given as goal

abbrev pub invariant-loop-index : goal.invariant-loop-index
invariant-loop-index l = record {
  within : l.index ≤ length l.left;
  same : is_one_of (numbers (drop l.index l.left)) l.number ≡ is_one_of (numbers l.left) l.number;
}

abbrev pub decreases-loop-index : goal.decreases-loop-index
decreases-loop-index l = length l.left - l.index
