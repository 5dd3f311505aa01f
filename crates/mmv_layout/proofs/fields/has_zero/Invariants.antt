-- None of the bytes so far is zero.
use Rattle.std.proofs.Common.{◌≡◌, ◌+◌, false, nat_eq}
use Rattle.mmv_layout.specs.Below.{some_below}
use Rattle.mmv_layout.specs.Fields.{byte_at}
use Rattle.mmv_layout.proofs.fields.has_zero.Given as goal

abbrev pub invariant-loop-k : goal.invariant-loop-k
invariant-loop-k l = some_below l.k (λ k. nat_eq (byte_at l.words (l.at + k)) 0) ≡ false
