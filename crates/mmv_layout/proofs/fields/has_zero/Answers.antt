-- A byte that is zero is among them.
use Rattle.std.proofs.Common.{◌+◌, nat_eq, sym, arith}
use Rattle.mmv_layout.specs.Fields.{byte_at, has_zero}
use Rattle.mmv_layout.proofs.Below.{some_holds}
use Rattle.mmv_layout.proofs.fields.has_zero.Goals as goal

pub returns-then-byte_at-eq0 : goal.returns-then-byte_at-eq0
unfolding has_zero
returns-then-byte_at-eq0 c =
    sym (some_holds c.args.n c.loop-k.k (λ k. nat_eq (byte_at c.args.words.now (c.args.at + k)) 0) (omega arith) (grind arith))
