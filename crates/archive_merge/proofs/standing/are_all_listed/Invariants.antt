-- Where it is so of the domains that are left, it is so of all.
use Rattle.std.proofs.Common.{drop}
use Rattle.std.specs.List.{AllByRecursion}
use Rattle.archive_merge.specs.Kept.{IsListed}
use Rattle.archive_merge.proofs.standing.are_all_listed.Given as goal

abbrev pub invariant-loop-listed : goal.invariant-loop-listed
invariant-loop-listed l =
    AllByRecursion (IsListed l.first l.second l.t l.ours.keys l.theirs.keys) (drop l.listed-index l.domains) → AllByRecursion (IsListed l.first l.second l.t l.ours.keys l.theirs.keys) l.domains
