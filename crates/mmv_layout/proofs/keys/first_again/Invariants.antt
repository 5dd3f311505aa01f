-- The keys so far were seen, and each of them was new; the next key begins where they end.
use Rattle.std.proofs.Common.{◌≡◌, ℕ, List, length, true, bytes_eq}
use Rattle.std.specs.List.{list_any}
use Rattle.mmv_layout.specs.Below.{all_below, some_below}
use Rattle.mmv_layout.specs.Keys.{key_at, keys_before, is_new_key}
use Rattle.mmv_layout.proofs.keys.first_again.Given as goal

abbrev pub invariant-loop-i : goal.invariant-loop-i
invariant-loop-i l =
    record { new : all_below l.i (is_new_key l.fn.words l.fn.key) ≡ true; seen : (q : List ℕ) → list_any (λ k. bytes_eq q k.now) l.seen.keys ≡ some_below l.i (λ j. bytes_eq q (key_at l.fn.words l.fn.key j)); begins : l.start ≡ length (keys_before l.fn.words l.fn.key l.i) }
