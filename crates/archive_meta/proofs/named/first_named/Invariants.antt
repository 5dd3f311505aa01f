use Rattle.std.proofs.Common.{◌≡◌, ◌≤◌, ◌-◌, length, drop}
use Rattle.archive_meta.specs.Said.{first_named}
use Rattle.archive_meta.proofs.named.first_named.Given as goal

abbrev pub invariant-loop-index : goal.invariant-loop-index
invariant-loop-index l = record {
  within : l.index ≤ length l.pmids;
  same : first_named l.meta l.name (drop l.index l.pmids) ≡ first_named l.meta l.name l.pmids;
}

abbrev pub decreases-loop-index : goal.decreases-loop-index
decreases-loop-index l = length l.pmids - l.index
