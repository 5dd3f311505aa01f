-- What the written content of a value means for a metric's kind (mmv(5)), and how a value's content is written.
use Rattle.std.specs.Prelude.{ℕ, ℤ, pos, negsuc, suc, ◌-◌, ◌*◌, ◌%◌, nat_le, nat_lt, if◌then◌else◌, List, Option, Some, None}
use Rattle.pcp_base.specs.declared.kind.Kind.{Kind}
use Rattle.pcp_base.specs.declared.kind.Kind.TheVariants as kinds
use Rattle.mmv_layout.specs.declared.rows.Content.{Content}
use Rattle.mmv_layout.specs.declared.rows.Content.TheVariants as contents
use Rattle.text_lines.specs.declared.layout_line.Written.{Written}
use Rattle.text_lines.specs.declared.layout_line.Written.TheVariants as written

-- the value field of a number from -low to high: its 64 bits of two's complement
abbrev pub number_in_range : ℕ → ℕ → ℤ → Option Content
number_in_range low high (pos n) = if nat_le n high then Some (contents.Number n) else None
number_in_range low high (negsuc n) = if nat_lt n low then Some (contents.Number (18446744073709551615 - n)) else None

abbrev pub number_as : Kind → ℤ → Option Content
number_as kinds.I32 n = number_in_range 2147483648 2147483647 n
number_as kinds.U32 n = number_in_range 0 4294967295 n
number_as kinds.I64 n = number_in_range 9223372036854775808 9223372036854775807 n
number_as kinds.U64 n = number_in_range 0 18446744073709551615 n
number_as kinds.Float n = None
number_as kinds.Double n = None
number_as kinds.Text n = None
number_as kinds.Elapsed n = None

abbrev pub text_as : Kind → List ℕ → Option Content
text_as kinds.Text text = Some (contents.Choice text)
text_as _ text = None

abbrev pub raw_as : Kind → ℕ → ℕ → Option Content
raw_as kinds.Float value extra = Some (contents.Raw value extra)
raw_as kinds.Double value extra = Some (contents.Raw value extra)
raw_as kinds.Elapsed value extra = Some (contents.Raw value extra)
raw_as _ value extra = None

-- the content that a value of this kind has by what is written of it
abbrev pub content_of : Kind → Written → Option Content
content_of kind (written.Number n) = number_as kind n
content_of kind (written.Quoted text) = text_as kind text
content_of kind (written.Raw value extra) = raw_as kind value extra

-- a number of two's complement, by half of how many there are
abbrev pub signed_number : ℕ → ℕ → Written
signed_number half n = if nat_lt n half then written.Number (pos n) else written.Number (negsuc (2 * half - suc n))

-- 32 bits of the value field for kinds of 32 bits, else all of it
abbrev pub written_number : Kind → ℕ → Written
written_number kinds.I32 n = signed_number 2147483648 (n % 4294967296)
written_number kinds.U32 n = written.Number (pos (n % 4294967296))
written_number kinds.I64 n = signed_number 9223372036854775808 n
written_number _ n = written.Number (pos n)

-- what is written of a value of this kind
abbrev pub written_of : Kind → Content → Written
written_of kind (contents.Number n) = written_number kind n
written_of kind (contents.Choice text) = written.Quoted text
written_of kind (contents.Raw value extra) = written.Raw value extra
