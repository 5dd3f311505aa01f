-- The passes of the writers so far are given back, and there is room for those of the writers that are left.
use Rattle.std.specs.Prelude.{◌≡◌, ◌++◌}
use Rattle.std.specs.Vec.Iter.{into_iter_items}
use Rattle.run_passes.specs.Dealing.{HaveRoomFor, all_back, lists_of}
use Rattle.run_passes.proofs.dealing.give_back.Given as goal

abbrev pub invariant-loop-hand : goal.invariant-loop-hand
invariant-loop-hand l =
    (lists_of l.lists.items ≡ all_back (lists_of l.fn.lists.items) l.yielded) × HaveRoomFor l.lists.items (into_iter_items l.hand-iterator)
    × (l.fn.hands.items ≡ l.yielded ++ into_iter_items l.hand-iterator)
