-- Numbers that fit their types, set by set and pair by pair.
use Rattle.std.specs.Prelude.{ℕ, ℤ, ◌<◌, ◌≤◌, length, FitsSigned}
use Rattle.std.specs.Int.{w32}
use Rattle.pcp_base.specs.Typed.{TypedBytes}
use Rattle.pcp_base.specs.declared.result.ValueSet.{ValueSet}
use Rattle.pcp_model.specs.Payload.{BodyInRange}

abbrev pub IsPair : ℤ × ℕ → Type 0
IsPair p = FitsSigned w32 p.0 × (p.1 < 4294967296)

abbrev pub IsBlockPair : ℤ × TypedBytes → Type 0
IsBlockPair p = FitsSigned w32 p.0 × (length p.1.bytes ≤ 16777211)

abbrev pub HasNumbers : ValueSet → Type 0
HasNumbers set = (set.pmid < 4294967296) × BodyInRange set.body
