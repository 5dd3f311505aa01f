-- No line feed stands in a line that is written.
use Rattle.std.proofs.Common.{ℕ, ◌<◌, List, ◌++◌, codes, refl, arith, All}
use Rattle.std.proofs.lemmas.List.Elements.{All-append}
use Rattle.mmv_layout.specs.declared.rows.MetricRow.{MetricRow}
use Rattle.text_lines.specs.declared.layout_line.Line.TheVariants as lines
use Rattle.text_lines.specs.declared.layout_line.Written.{Written}
use Rattle.text_lines.specs.declared.layout_line.Written.TheVariants as written
use Rattle.text_lines.specs.Laws.{IsLineByte}
use Rattle.text_lines.specs.Spelling.{number_part, int_part, text_part, hex_part, optional_number_part, optional_int_part, help_part}
use Rattle.text_lines.proofs.LineBytes.{behind_byte, plain_bytes, number_in_line, int_in_line, whole_in_line, hex_in_line, optional_number_in_line, optional_int_in_line, text_in_line, help_in_line}
use Rattle.text_lines.specs.LayoutLaws.{IsMetric, IsWritten, WrittenLineIsOne}
use Rattle.text_lines.specs.LayoutSpelling.{line_text, codes_parts, links_parts, kind_part, semantics_part, content_part}
use Rattle.text_lines.proofs.MetricWords.{kind_in_line, semantics_in_line, name_in_line}

-- bytes of a line behind others
joined : (xs ys : List ℕ) → All IsLineByte xs → All IsLineByte ys → All IsLineByte (xs ++ ys)
joined xs ys h k = All-append IsLineByte xs ys h k

-- a number of 32 bits
narrow_in_line : (n : ℕ) → n < 4294967296 → All IsLineByte (number_part n)
narrow_in_line n h = number_in_line n (omega arith)

content_in_line : (content : Written) → IsWritten content → All IsLineByte (content_part content)
content_in_line (written.Number n) h = whole_in_line n h
content_in_line (written.Quoted text) h = text_in_line text h
content_in_line (written.Raw value extra) h = joined (hex_part 16 value) (hex_part 16 extra) (hex_in_line 16 value) (hex_in_line 16 extra)

codes_in_line : (row : MetricRow) → IsMetric row → All IsLineByte (codes_parts row)
unfolding codes_parts
codes_in_line row h =
    let units = hex_in_line 8 row.units in
    let semantics = joined (semantics_part row.semantics) (hex_part 8 row.units) (semantics_in_line row.semantics) units in
    let kind = joined (kind_part row.kind) (semantics_part row.semantics ++ hex_part 8 row.units) (kind_in_line row.kind) semantics in
    let item = joined (number_part row.item) (kind_part row.kind ++ (semantics_part row.semantics ++ hex_part 8 row.units)) (narrow_in_line row.item h.item) kind in
    behind_byte 32 (row.name ++ (number_part row.item ++ (kind_part row.kind ++ (semantics_part row.semantics ++ hex_part 8 row.units)))) (omega arith) (omega arith)
    (joined row.name (number_part row.item ++ (kind_part row.kind ++ (semantics_part row.semantics ++ hex_part 8 row.units))) (name_in_line row.name h.name) item)

links_in_line : (row : MetricRow) → IsMetric row → All IsLineByte (links_parts row)
unfolding links_parts
links_in_line row h =
    joined (optional_number_part row.serial) (help_part row.short ++ help_part row.long) (optional_number_in_line row.serial h.serial)
    (joined (help_part row.short) (help_part row.long) (help_in_line row.short h.short) (help_in_line row.long h.long))

pub line_in_line : WrittenLineIsOne
unfolding line_text
line_in_line (lines.Mmv version generation flags pid cluster) h =
    joined (codes "mmv") (number_part version ++ (number_part generation ++ (number_part flags ++ (number_part pid ++ number_part cluster)))) (plain_bytes (codes "mmv") refl)
    (joined (number_part version) (number_part generation ++ (number_part flags ++ (number_part pid ++ number_part cluster))) (narrow_in_line version h.0)
    (joined (number_part generation) (number_part flags ++ (number_part pid ++ number_part cluster)) (number_in_line generation h.1)
    (joined (number_part flags) (number_part pid ++ number_part cluster) (narrow_in_line flags h.2)
    (joined (number_part pid) (number_part cluster) (narrow_in_line pid h.3) (narrow_in_line cluster h.4)))))
line_in_line (lines.String text) h = joined (codes "string") (text_part text) (plain_bytes (codes "string") refl) (text_in_line text h)
line_in_line (lines.Indom serial short long) h =
    joined (codes "indom") (number_part serial ++ (help_part short ++ help_part long)) (plain_bytes (codes "indom") refl)
    (joined (number_part serial) (help_part short ++ help_part long) (narrow_in_line serial h.0)
    (joined (help_part short) (help_part long) (help_in_line short h.1) (help_in_line long h.2)))
line_in_line (lines.Instance serial id name) h =
    joined (codes "instance") (number_part serial ++ (int_part id ++ text_part name)) (plain_bytes (codes "instance") refl)
    (joined (number_part serial) (int_part id ++ text_part name) (narrow_in_line serial h.0)
    (joined (int_part id) (text_part name) (int_in_line id h.1) (text_in_line name h.2)))
line_in_line (lines.Metric row) h =
    joined (codes "metric") (codes_parts row ++ links_parts row) (plain_bytes (codes "metric") refl)
    (joined (codes_parts row) (links_parts row) (codes_in_line row h) (links_in_line row h))
line_in_line (lines.Value item instance content) h =
    joined (codes "value") (number_part item ++ (optional_int_part instance ++ content_part content)) (plain_bytes (codes "value") refl)
    (joined (number_part item) (optional_int_part instance ++ content_part content) (narrow_in_line item h.0)
    (joined (optional_int_part instance) (content_part content) (optional_int_in_line instance h.1) (content_in_line content h.2)))
