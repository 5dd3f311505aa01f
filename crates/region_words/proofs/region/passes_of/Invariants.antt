-- Those that were handed on, and those that are left, are all.
use Rattle.std.specs.Prelude.{◌≡◌, ◌++◌}
use Rattle.std.specs.Vec.Iter.{into_iter_items}
use Rattle.region_words.proofs.region.passes_of.Given as goal

abbrev pub invariant-loop-inner : goal.invariant-loop-inner
invariant-loop-inner l = (l.given.items ≡ l.yielded) × (l.fn.passes.items ≡ l.yielded ++ into_iter_items l.inner-iterator)
