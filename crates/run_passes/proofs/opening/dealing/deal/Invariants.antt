-- The hands so far have one pass more, and for each that is left there is one.
use Rattle.std.specs.Prelude.{◌≡◌, ◌++◌, length}
use Rattle.std.specs.Vec.Iter.{into_iter_items}
use Rattle.run_passes.specs.Makings.{one_more, lists_of}
use Rattle.run_passes.proofs.opening.dealing.deal.Given as goal

abbrev pub invariant-loop-hand : goal.invariant-loop-hand
invariant-loop-hand l =
    (goal.iterator-loop-hand).can_next l.hand-iterator × (goal.iterator-loop-hand).is_finite l.hand-iterator
    × (length (into_iter_items l.hand-iterator) ≡ length (into_iter_items l.left))
    × (lists_of l.dealt.items ++ one_more (lists_of (into_iter_items l.hand-iterator)) (into_iter_items l.left) ≡ one_more (lists_of l.fn.hands.items) l.fn.passes.items)
