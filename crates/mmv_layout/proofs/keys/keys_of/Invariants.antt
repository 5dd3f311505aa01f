-- The keys so far and their ends.
use Rattle.std.proofs.Common.{◌≡◌}
use Rattle.mmv_layout.specs.Keys.{keys_before, ends_before}
use Rattle.mmv_layout.proofs.keys.keys_of.Given as goal

abbrev pub invariant-loop-i : goal.invariant-loop-i
invariant-loop-i l = record { keys : l.numbers.items ≡ keys_before l.words l.key l.i; ends : l.ends.items ≡ ends_before l.words l.key l.i }
