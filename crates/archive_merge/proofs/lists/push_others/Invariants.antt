use Rattle.std.proofs.Common.{◌≡◌, ◌++◌, drop}
use Rattle.std.specs.Prelude.{filter, is_none}
use Rattle.archive_merge.specs.Facts.{both_lists}
use Rattle.archive_merge.specs.Naming.{name_in}
use Rattle.archive_merge.proofs.lists.push_others.Given as goal

abbrev pub invariant-loop-at : goal.invariant-loop-at
invariant-loop-at l = l.made ++ filter (λ p. is_none (name_in p.0 l.fn.made)) (drop l.at l.pairs) ≡ both_lists l.fn.made l.pairs
