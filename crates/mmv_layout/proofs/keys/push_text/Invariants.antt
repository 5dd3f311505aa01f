-- What was written and the bytes behind are all.
use Rattle.std.proofs.Common.{◌≡◌, ◌+◌, ◌-◌, ◌++◌}
use Rattle.mmv_layout.specs.Fields.{text_at}
use Rattle.mmv_layout.proofs.keys.push_text.Given as goal

abbrev pub invariant-loop-k : goal.invariant-loop-k
invariant-loop-k l = l.keys.items ++ text_at l.words (l.at + l.k) (l.n - l.k) ≡ l.initial.keys.items ++ text_at l.words l.at l.n
