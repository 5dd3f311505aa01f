use Rattle.std.proofs.Common.{◌≡◌, drop}
use Rattle.std.specs.List.{list_any}
use Rattle.archive_merge.specs.Naming.{differ, name_in}
use Rattle.archive_merge.proofs.naming.renames_one.Given as goal

abbrev pub invariant-loop-instance : goal.invariant-loop-instance
invariant-loop-instance g l =
    list_any (λ p. differ (name_in p.0 l.first) (name_in p.0 l.second)) (drop l.instance-index l.shown) ≡ list_any (λ p. differ (name_in p.0 l.first) (name_in p.0 l.second)) l.shown
