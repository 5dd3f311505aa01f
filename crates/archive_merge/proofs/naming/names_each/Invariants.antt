use Rattle.std.proofs.Common.{◌≡◌, drop}
use Rattle.std.specs.Prelude.{is_some}
use Rattle.std.specs.List.{list_all}
use Rattle.archive_merge.specs.Naming.{name_in}
use Rattle.archive_merge.proofs.naming.names_each.Given as goal

abbrev pub invariant-loop-instance : goal.invariant-loop-instance
invariant-loop-instance g l = list_all (λ p. is_some (name_in p.0 l.pairs)) (drop l.instance-index l.shown) ≡ list_all (λ p. is_some (name_in p.0 l.pairs)) l.shown
