use Rattle.std.proofs.Common.{◌≡◌, ◌≤◌, ◌-◌, length, drop}
use Rattle.archive_meta.specs.Said.{has_name}
use Rattle.archive_meta.proofs.named.has_name.Given as goal

abbrev pub invariant-loop-index : goal.invariant-loop-index
invariant-loop-index l = record {
  within : l.index ≤ length l.names;
  same : has_name l.name (drop l.index l.names) ≡ has_name l.name l.names;
}

abbrev pub decreases-loop-index : goal.decreases-loop-index
decreases-loop-index l = length l.names - l.index
