-- The bytes so far and those behind are the text.
use Rattle.std.proofs.Common.{◌≡◌, ◌+◌, ◌-◌, ◌++◌}
use Rattle.mmv_layout.specs.Fields.{text_at}
use Rattle.mmv_layout.proofs.fields.bytes_at.Given as goal

abbrev pub invariant-loop-k : goal.invariant-loop-k
invariant-loop-k l = l.text.items ++ text_at l.words (l.at + l.k) (l.n - l.k) ≡ text_at l.words l.at l.n
