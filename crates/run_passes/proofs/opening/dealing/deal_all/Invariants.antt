-- The passes of the regions so far are dealt; those regions, and those that are left, are all.
use Rattle.std.specs.Prelude.{◌≡◌, ◌++◌}
use Rattle.std.specs.Vec.Iter.{into_iter_items}
use Rattle.run_passes.specs.Makings.{IsDealt, lists_of}
use Rattle.run_passes.proofs.opening.dealing.deal_all.Given as goal

abbrev pub invariant-loop-region : goal.invariant-loop-region
invariant-loop-region l =
    IsDealt l.seats l.yielded l.mounted.items l.passes.items (lists_of l.hands.items) × (l.fn.made.items ≡ l.yielded ++ into_iter_items l.region-iterator)
