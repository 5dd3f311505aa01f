-- It isn't among the pairs so far.
use Rattle.std.proofs.Common.{◌≡◌, drop}
use Rattle.archive_merge.specs.Naming.{name_in}
use Rattle.archive_merge.proofs.naming.name_in.Given as goal

abbrev pub invariant-loop-at : goal.invariant-loop-at
invariant-loop-at l = name_in l.instance (drop l.at l.pairs) ≡ name_in l.instance l.pairs
