-- The rows so far.
use Rattle.std.proofs.Common.{◌≡◌}
use Rattle.mmv_layout.specs.Entries.{string_at}
use Rattle.mmv_layout.specs.Rows.{list_below, string_text}
use Rattle.mmv_layout.proofs.layout.strings_of.Given as goal

abbrev pub invariant-loop-i : goal.invariant-loop-i
invariant-loop-i l = l.rows ≡ list_below l.i (λ i. string_text l.words (string_at l.words i))
