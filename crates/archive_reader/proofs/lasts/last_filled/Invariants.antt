use Rattle.std.proofs.Common.{◌≡◌, ◌≤◌, length, take}
use Rattle.archive_reader.specs.Asked.{last_filled}
use Rattle.archive_reader.proofs.lasts.last_filled.Given as goal

abbrev pub invariant-loop-left : goal.invariant-loop-left
invariant-loop-left l = record {
  within : l.left ≤ l.count;
  few : l.count ≤ length l.volumes;
  same : last_filled (take l.left l.volumes) ≡ last_filled (take l.count l.volumes);
}

abbrev pub decreases-loop-left : goal.decreases-loop-left
decreases-loop-left l = l.left
