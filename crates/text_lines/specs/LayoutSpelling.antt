-- How each line is written: its word, and its parts behind it.
use Rattle.std.specs.Prelude.{List, ℕ, ◌∷◌, [], ◌++◌, codes}
use Rattle.pcp_base.specs.declared.kind.Kind.{Kind}
use Rattle.pcp_base.specs.declared.kind.Kind.TheVariants as kinds
use Rattle.pcp_base.specs.declared.kind.Semantics.{Semantics}
use Rattle.pcp_base.specs.declared.kind.Semantics.TheVariants as meanings
use Rattle.mmv_layout.specs.declared.rows.MetricRow.{MetricRow}
use Rattle.text_lines.specs.declared.layout_line.Line.{Line}
use Rattle.text_lines.specs.declared.layout_line.Line.TheVariants as lines
use Rattle.text_lines.specs.declared.layout_line.Written.{Written}
use Rattle.text_lines.specs.declared.layout_line.Written.TheVariants as written
use Rattle.text_lines.specs.Spelling.{number_part, int_part, text_part, hex_part, optional_number_part, optional_int_part, help_part}

abbrev pub kind_part : Kind → List ℕ
kind_part kinds.I32 = codes " i32"
kind_part kinds.U32 = codes " u32"
kind_part kinds.I64 = codes " i64"
kind_part kinds.U64 = codes " u64"
kind_part kinds.Float = codes " float"
kind_part kinds.Double = codes " double"
kind_part kinds.Text = codes " string"
kind_part kinds.Elapsed = codes " elapsed"

abbrev pub semantics_part : Semantics → List ℕ
semantics_part meanings.Counter = codes " counter"
semantics_part meanings.Instant = codes " instant"
semantics_part meanings.Discrete = codes " discrete"

abbrev pub content_part : Written → List ℕ
content_part (written.Number n) = int_part n
content_part (written.Quoted text) = text_part text
content_part (written.Raw value extra) = hex_part 16 value ++ hex_part 16 extra

-- a metric's parts: its name and codes, and behind them its domain and helps
unfoldable pub codes_parts : MetricRow → List ℕ
codes_parts row =
    32 ∷ (row.name ++ (number_part row.item ++ (kind_part row.kind ++ (semantics_part row.semantics ++ hex_part 8 row.units))))

unfoldable pub links_parts : MetricRow → List ℕ
links_parts row = optional_number_part row.serial ++ (help_part row.short ++ help_part row.long)

-- a line without its line feed
unfoldable pub line_text : Line → List ℕ
line_text (lines.Mmv version generation flags pid cluster) =
    codes "mmv" ++ (number_part version ++ (number_part generation ++ (number_part flags ++ (number_part pid ++ number_part cluster))))
line_text (lines.String text) = codes "string" ++ text_part text
line_text (lines.Indom serial short long) = codes "indom" ++ (number_part serial ++ (help_part short ++ help_part long))
line_text (lines.Instance serial id name) = codes "instance" ++ (number_part serial ++ (int_part id ++ text_part name))
line_text (lines.Metric row) = codes "metric" ++ (codes_parts row ++ links_parts row)
line_text (lines.Value item instance content) = codes "value" ++ (number_part item ++ (optional_int_part instance ++ content_part content))

-- a line with its line feed
unfoldable pub full_line : Line → List ℕ
full_line line = line_text line ++ 10 ∷ []
