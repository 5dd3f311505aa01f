-- Those that are left are of the region, and so is the pass.
use Rattle.std.specs.Prelude.{◌≡◌, All, IfSome}
use Rattle.std.specs.Vec.Iter.{into_iter_items}
use Rattle.region_tests.proofs.threads.gather_all.Given as goal

abbrev pub invariant-loop-one : goal.invariant-loop-one
invariant-loop-one l = (l.pass.region ≡ l.initial.pass.region) × All (λ one. IfSome one (λ r. r.0.region ≡ l.initial.pass.region)) (into_iter_items l.one-iterator)
