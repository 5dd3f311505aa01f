-- The codes of kinds and semantics (pmLookupDesc(3), mmv(5)).
use Rattle.std.specs.Prelude.{ℕ, Option, Some, None, if◌then◌else◌, ◌==◌}
use Rattle.pcp_base.specs.declared.kind.Kind.{Kind}
use Rattle.pcp_base.specs.declared.kind.Kind.TheVariants as kinds
use Rattle.pcp_base.specs.declared.kind.Semantics.{Semantics}
use Rattle.pcp_base.specs.declared.kind.Semantics.TheVariants as meanings

abbrev pub code_of_kind : Kind → ℕ
code_of_kind kinds.I32 = 0
code_of_kind kinds.U32 = 1
code_of_kind kinds.I64 = 2
code_of_kind kinds.U64 = 3
code_of_kind kinds.Float = 4
code_of_kind kinds.Double = 5
code_of_kind kinds.Text = 6
code_of_kind kinds.Elapsed = 9

abbrev pub kind_of_code : ℕ → Option Kind
kind_of_code n =
    if n == 0 then Some kinds.I32 else
    if n == 1 then Some kinds.U32 else
    if n == 2 then Some kinds.I64 else
    if n == 3 then Some kinds.U64 else
    if n == 4 then Some kinds.Float else
    if n == 5 then Some kinds.Double else
    if n == 6 then Some kinds.Text else
    if n == 9 then Some kinds.Elapsed else None

abbrev pub code_of_semantics : Semantics → ℕ
code_of_semantics meanings.Counter = 1
code_of_semantics meanings.Instant = 3
code_of_semantics meanings.Discrete = 4

abbrev pub semantics_of_code : ℕ → Option Semantics
semantics_of_code n =
    if n == 1 then Some meanings.Counter else
    if n == 3 then Some meanings.Instant else
    if n == 4 then Some meanings.Discrete else None
