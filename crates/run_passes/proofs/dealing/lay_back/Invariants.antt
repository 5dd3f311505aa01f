-- The lists have the passes so far behind; those, and those that are left, are all.
use Rattle.std.specs.Prelude.{◌≡◌, ◌++◌, length}
use Rattle.std.specs.Vec.Iter.{into_iter_items}
use Rattle.run_passes.specs.Dealing.{AreLaidBack}
use Rattle.run_passes.proofs.dealing.lay_back.Given as goal

abbrev pub invariant-loop-pass : goal.invariant-loop-pass
invariant-loop-pass l = (l.at ≡ length l.yielded) × AreLaidBack l.fn.lists.items l.yielded l.lists.items × (l.fn.passes.items ≡ l.yielded ++ into_iter_items l.pass-iterator)
