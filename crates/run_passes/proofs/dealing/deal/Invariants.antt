-- The lists so far are dealt.
use Rattle.std.specs.Prelude.{◌≡◌, length}
use Rattle.run_passes.proofs.HandPlaces.{DealtTo}
use Rattle.run_passes.proofs.dealing.deal.Given as goal

abbrev pub invariant-loop-at : goal.invariant-loop-at
invariant-loop-at l = (l.at-end ≡ length l.fn.lists.items) × DealtTo l.at l.fn.lists.items l.lists.items l.hands.items
