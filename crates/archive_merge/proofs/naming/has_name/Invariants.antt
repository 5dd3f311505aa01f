-- It has a name exactly where it has one among the pairs that are left.
use Rattle.std.proofs.Common.{◌≡◌, drop}
use Rattle.std.specs.Prelude.{is_some}
use Rattle.archive_merge.specs.Naming.{name_in}
use Rattle.archive_merge.proofs.naming.has_name.Given as goal

abbrev pub invariant-loop-at : goal.invariant-loop-at
invariant-loop-at l = is_some (name_in l.instance (drop l.at l.pairs)) ≡ is_some (name_in l.instance l.pairs)
