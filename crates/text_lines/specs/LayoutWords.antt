-- The words of a metric's line: its kind and its semantics.
use Rattle.std.specs.Prelude.{if◌then◌else◌, ℕ, List, Option, Some, None, codes, bytes_eq}
use Rattle.pcp_base.specs.declared.kind.Kind.{Kind}
use Rattle.pcp_base.specs.declared.kind.Kind.TheVariants as kinds
use Rattle.pcp_base.specs.declared.kind.Semantics.{Semantics}
use Rattle.pcp_base.specs.declared.kind.Semantics.TheVariants as meanings

unfoldable pub other_kind_of : List ℕ → Option Kind
other_kind_of word =
    if bytes_eq word (codes "float") then Some kinds.Float else
    if bytes_eq word (codes "double") then Some kinds.Double else
    if bytes_eq word (codes "string") then Some kinds.Text else
    if bytes_eq word (codes "elapsed") then Some kinds.Elapsed else None

unfoldable pub kind_of : List ℕ → Option Kind
kind_of word =
    if bytes_eq word (codes "i32") then Some kinds.I32 else
    if bytes_eq word (codes "u32") then Some kinds.U32 else
    if bytes_eq word (codes "i64") then Some kinds.I64 else
    if bytes_eq word (codes "u64") then Some kinds.U64 else other_kind_of word

unfoldable pub semantics_of : List ℕ → Option Semantics
semantics_of word =
    if bytes_eq word (codes "counter") then Some meanings.Counter else
    if bytes_eq word (codes "instant") then Some meanings.Instant else
    if bytes_eq word (codes "discrete") then Some meanings.Discrete else None
