-- The values of a metric as a fetch shows them (pmFetch(3)): which of its instances, in which order, and how each is
-- stored.
use Rattle.std.specs.Prelude.{ℕ, ℤ, pos, negsuc, ◌%◌, ◌==◌, if◌then◌else◌, List, [], ◌∷◌, ◌++◌, fold, flat_map, Option, unwrap_or}
use Rattle.std.specs.Int.{w64, to_be_bytes}
use Rattle.std.specs.Ordering.{int_cmp}
use Rattle.std.specs.BTreeMap.{insert_entry}
use Rattle.pcp_base.specs.Typed.{TypedBytes}
use Rattle.pcp_base.specs.declared.kind.Kind.{Kind}
use Rattle.pcp_base.specs.declared.kind.Kind.TheVariants as kinds
use Rattle.pcp_base.specs.declared.result.Body.{Body}
use Rattle.pcp_base.specs.declared.result.Body.TheVariants.{InPlace, Blocks, Status}
use Rattle.mmv_layout.specs.declared.rows.ValueRow.{ValueRow}
use Rattle.mmv_layout.specs.declared.rows.Content.{Content}
use Rattle.mmv_layout.specs.declared.rows.Content.TheVariants.{Number, Choice, Raw}
use Rattle.profile_filter.specs.Kept.{Settings}
pub use Rattle.profile_filter.specs.Kept.{keeps}

-- contents by instance, in ascending signed number
abbrev pub ByInstance : Type 0
ByInstance = List (ℤ × Content)

-- the value of a metric without a domain has the instance -1
abbrev pub instance_in : ValueRow → ℤ
instance_in row = unwrap_or row.instance (negsuc 0)

-- values of an item with one more value, if it is of the item
abbrev pub with_value : ℕ → ByInstance → ValueRow → ByInstance
with_value item values row = if row.item == item then insert_entry int_cmp values (instance_in row) row.content else values

-- the values of an item
abbrev pub values_with : ℕ → List ValueRow → ByInstance
values_with item rows = fold (with_value item) [] rows

-- in place stand the low 32 bits
abbrev pub word_of : Content → ℕ
word_of (Number n) = n % 4294967296
word_of (Choice text) = 0
word_of (Raw n extra) = 0

-- a block has the 8 bytes of a number, the highest first, or a text and a zero byte
abbrev pub bytes_of : Content → List ℕ
bytes_of (Number n) = to_be_bytes w64 n
bytes_of (Choice text) = text ++ 0 ∷ []
bytes_of (Raw n extra) = []

abbrev pub block_of : ℕ → Content → TypedBytes
block_of code content = record { code = code; bytes = bytes_of content }

-- the values that the profile keeps, in place and as blocks
abbrev pub shown_word : Settings → Option ℕ → ℤ × Content → List (ℤ × ℕ)
shown_word profile indom value = if keeps profile indom value.0 then (value.0, word_of value.1) ∷ [] else []

abbrev pub shown_block : Settings → Option ℕ → ℕ → ℤ × Content → List (ℤ × TypedBytes)
shown_block profile indom code value = if keeps profile indom value.0 then (value.0, block_of code value.1) ∷ [] else []

-- a set without a value is status 0
abbrev pub words_or_none : List (ℤ × ℕ) → Body
words_or_none [] = Status (pos 0)
words_or_none (pair ∷ pairs) = InPlace (pair ∷ pairs)

abbrev pub blocks_or_none : List (ℤ × TypedBytes) → Body
blocks_or_none [] = Status (pos 0)
blocks_or_none (pair ∷ pairs) = Blocks (pair ∷ pairs)

abbrev pub words_of : Settings → Option ℕ → ByInstance → Body
words_of profile indom values = words_or_none (flat_map (shown_word profile indom) values)

abbrev pub blocks_of : Settings → Option ℕ → ℕ → ByInstance → Body
blocks_of profile indom code values = blocks_or_none (flat_map (shown_block profile indom code) values)

-- I32 and U32 stand in place, I64, U64 and texts in blocks, and others aren't converted
abbrev pub body_of_values : Kind → Settings → Option ℕ → ByInstance → Body
body_of_values kinds.I32 profile indom values = words_of profile indom values
body_of_values kinds.U32 profile indom values = words_of profile indom values
body_of_values kinds.I64 profile indom values = blocks_of profile indom 2 values
body_of_values kinds.U64 profile indom values = blocks_of profile indom 3 values
body_of_values kinds.Float profile indom values = Status (negsuc 12361)
body_of_values kinds.Double profile indom values = Status (negsuc 12361)
body_of_values kinds.Text profile indom values = blocks_of profile indom 6 values
body_of_values kinds.Elapsed profile indom values = Status (negsuc 12361)
