-- What a line and a value may carry, and that exactly such lines and values are written and read.
use Rattle.std.specs.Prelude.{◌≡◌, ◌≢◌, ◌⊎◌, ℕ, ◌<◌, ◌≤◌, List, length, slice_index, Some, IfSome, All}
use Rattle.pcp_base.specs.declared.kind.Kind.{Kind}
use Rattle.pcp_base.specs.declared.kind.Kind.TheVariants as kinds
use Rattle.mmv_layout.specs.declared.rows.Content.{Content}
use Rattle.mmv_layout.specs.declared.rows.Content.TheVariants as contents
use Rattle.mmv_layout.specs.declared.rows.MetricRow.{MetricRow}
use Rattle.text_lines.specs.Laws.{IsLineByte, IsTextByte, IsInt32, IsWhole}
use Rattle.text_lines.specs.declared.layout_line.Line.{Line}
use Rattle.text_lines.specs.declared.layout_line.Line.TheVariants as lines
use Rattle.text_lines.specs.declared.layout_line.Written.{Written}
use Rattle.text_lines.specs.declared.layout_line.Written.TheVariants as written
use Rattle.text_lines.specs.Contents.{content_of, written_of}
use Rattle.text_lines.specs.LayoutLines.{line_of}
use Rattle.text_lines.specs.LayoutSpelling.{line_text}

-- numbers of 32 and of 64 bits
abbrev pub IsNumber32 : ℕ → Type 0
IsNumber32 n = n < 4294967296

abbrev pub IsNumber64 : ℕ → Type 0
IsNumber64 n = n < 18446744073709551616

-- a byte of a metric's name: no zero byte, line feed or space
abbrev pub IsNameByte : ℕ → Type 0
IsNameByte b = IsTextByte b × (b ≢ 10) × (b ≢ 32)

-- a metric's name, which a quote doesn't begin
pub record IsLineName (name : List ℕ) : Type 0 where
  pub some : 0 < length name
  pub unquoted : slice_index name 0 ≢ 34
  pub bytes : All IsNameByte name

pub record IsMetric (row : MetricRow) : Type 0 where
  pub name : IsLineName row.name
  pub item : IsNumber32 row.item
  pub units : IsNumber32 row.units
  pub serial : IfSome row.serial IsNumber32
  pub short : IfSome row.short (All IsTextByte)
  pub long : IfSome row.long (All IsTextByte)

abbrev pub IsWritten : Written → Type 0
IsWritten (written.Number n) = IsWhole n
IsWritten (written.Quoted text) = All IsTextByte text
IsWritten (written.Raw value extra) = IsNumber64 value × IsNumber64 extra

abbrev pub IsLine : Line → Type 0
IsLine (lines.Mmv version generation flags pid cluster) =
    IsNumber32 version × IsNumber64 generation × IsNumber32 flags × IsNumber32 pid × IsNumber32 cluster
IsLine (lines.String text) = All IsTextByte text
IsLine (lines.Indom serial short long) = IsNumber32 serial × IfSome short (All IsTextByte) × IfSome long (All IsTextByte)
IsLine (lines.Instance serial id name) = IsNumber32 serial × IsInt32 id × All IsTextByte name
IsLine (lines.Metric row) = IsMetric row
IsLine (lines.Value item instance content) = IsNumber32 item × IfSome instance IsInt32 × IsWritten content

-- what is written of a line is read as that line
abbrev pub WrittenLineIsRead : Type 0
WrittenLineIsRead = (line : Line) → IsLine line → line_of (line_text line) ≡ Some line

-- and no line feed stands in it
abbrev pub WrittenLineIsOne : Type 0
WrittenLineIsOne = (line : Line) → IsLine line → All IsLineByte (line_text line)

-- what is read of a line's bytes may be written
abbrev pub ReadLineIsLine : Type 0
ReadLineIsLine = (bytes : List ℕ) (line : Line) → All IsLineByte bytes → line_of bytes ≡ Some line → IsLine line

-- What the fields of a value may hold: numbers of 64 bits, a text without a zero byte.
abbrev pub IsField : Content → Type 0
IsField (contents.Number n) = IsNumber64 n
IsField (contents.Choice text) = All IsTextByte text
IsField (contents.Raw value extra) = IsNumber64 value × IsNumber64 extra

-- The content that a value of this kind may have: a number of the kind's range as 64 bits of two's complement, a text,
-- or two fields of any bits. A value field of 32 bits whose high half is other than this number's isn't printed whole.
abbrev pub IsContent : Kind → Content → Type 0
IsContent kinds.I32 (contents.Number n) = (n < 2147483648) ⊎ ((18446744071562067968 ≤ n) × IsNumber64 n)
IsContent kinds.U32 (contents.Number n) = IsNumber32 n
IsContent kinds.I64 (contents.Number n) = IsNumber64 n
IsContent kinds.U64 (contents.Number n) = IsNumber64 n
IsContent kinds.Text (contents.Choice text) = Unit {0}
IsContent kinds.Float (contents.Raw value extra) = Unit {0}
IsContent kinds.Double (contents.Raw value extra) = Unit {0}
IsContent kinds.Elapsed (contents.Raw value extra) = Unit {0}
IsContent _ _ = ⊥

-- What is written of a value's content is read as that content,
abbrev pub WrittenContentIsRead : Type 0
WrittenContentIsRead = (kind : Kind) (content : Content) → IsContent kind content → content_of kind (written_of kind content) ≡ Some content

-- of no other content,
abbrev pub ReadContentIsContent : Type 0
ReadContentIsContent = (kind : Kind) (is : Written) (content : Content) → content_of kind is ≡ Some content → IsContent kind content

-- and it may stand in a line.
abbrev pub WrittenContentIsWritten : Type 0
WrittenContentIsWritten = (kind : Kind) (content : Content) → IsField content → IsWritten (written_of kind content)
