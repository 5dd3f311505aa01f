-- No string so far has the text.
use Rattle.std.proofs.Common.{◌≡◌, ℕ, List, false, bytes_eq}
use Rattle.std.specs.List.{list_any}
use Rattle.mmv_layout.specs.Entries.{string_at}
use Rattle.mmv_layout.specs.Rows.{list_below, string_text}
use Rattle.run_script.proofs.suiting.has_text.Given as goal

abbrev pub invariant-loop-i : goal.invariant-loop-i
invariant-loop-i l = list_any (λ (found : ℕ × List ℕ). bytes_eq found.1 l.text) (list_below l.i (λ i. (string_at l.words i, string_text l.words (string_at l.words i)))) ≡ false
