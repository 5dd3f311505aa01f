-- So many writers so far, each with its places.
use Rattle.std.specs.Prelude.{◌≡◌, ℕ, None, Some, length, replicate, slice_get}
use Rattle.run_passes.specs.Hands.{KnownHand}
use Rattle.run_passes.proofs.dealing.make_hands.Given as goal

abbrev pub invariant-loop-number : goal.invariant-loop-number
invariant-loop-number l =
    (length l.hands.items ≡ l.number) × ((k : ℕ) (hand : KnownHand) → slice_get l.hands.items k ≡ Some hand → (hand.number ≡ k) × (hand.passes ≡ replicate (length l.lists) None))
