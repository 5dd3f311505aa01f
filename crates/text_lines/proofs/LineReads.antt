-- A line that is written is read again, part by part.
use Rattle.std.proofs.Common.{◌≡◌, ℕ, ℤ, ◌<◌, cond, List, [], ◌∷◌, ◌++◌, codes, bytes_eq, refl, sym, ap, ap₂, ◌∙◌, append_assoc, append-nil, Option, Some, None, IfSome, All}
use Rattle.mmv_layout.specs.declared.rows.MetricRow.{MetricRow}
use Rattle.text_lines.specs.declared.layout_line.Line.{Line}
use Rattle.text_lines.specs.declared.layout_line.Line.TheVariants as lines
use Rattle.text_lines.specs.declared.layout_line.Written.{Written}
use Rattle.text_lines.specs.Laws.{EndsWord, IsTextByte}
use Rattle.text_lines.specs.Numbers.{number32}
use Rattle.text_lines.specs.Words.{take_as, take_text, take_help}
use Rattle.text_lines.specs.Spelling.{number_part, int_part, text_part, hex_part, optional_number_part, optional_int_part, help_part}
use Rattle.text_lines.proofs.Escapes.{text_is_read, help_is_read}
use Rattle.text_lines.proofs.NumberParts.{number_is_read, wide_number_is_read, int_is_read, hex_is_read, optional_number_is_read, optional_int_is_read}
use Rattle.text_lines.proofs.Splitting.{IsWord, plain_word, first_word_of, behind_word_of}
use Rattle.text_lines.specs.LayoutLaws.{IsLine, IsMetric, WrittenLineIsRead}
use Rattle.text_lines.specs.LayoutLines.{mmv_line, string_line, indom_line, instance_line, metric_line, value_line, line_of}
use Rattle.text_lines.specs.LayoutSpelling.{line_text, codes_parts, links_parts, kind_part, semantics_part, content_part}
use Rattle.text_lines.proofs.ContentReads.{content_ends, content_is_read}
use Rattle.text_lines.proofs.MetricWords.{kind_is_read, kind_ends, semantics_is_read, semantics_ends, name_is_read}

-- Behind a word stands a part, which begins with a space.
number_ends : (n : ℕ) (more : List ℕ) → EndsWord (number_part n ++ more)
unfolding number_part
number_ends n more = refl

int_ends : (n : ℤ) (more : List ℕ) → EndsWord (int_part n ++ more)
unfolding int_part
int_ends n more = refl

text_ends : (text more : List ℕ) → EndsWord (text_part text ++ more)
unfolding text_part
text_ends text more = refl

hex_ends : (count n : ℕ) (more : List ℕ) → EndsWord (hex_part count n ++ more)
unfolding hex_part
hex_ends count n more = refl

optional_int_ends : (n : Option ℤ) (more : List ℕ) → EndsWord (optional_int_part n ++ more)
optional_int_ends None more = refl
optional_int_ends (Some n) more = int_ends n more

optional_number_ends : (n : Option ℕ) (more : List ℕ) → EndsWord (optional_number_part n ++ more)
optional_number_ends None more = refl
optional_number_ends (Some n) more = number_ends n more

help_ends : (help : Option (List ℕ)) (more : List ℕ) → EndsWord (help_part help ++ more)
help_ends None more = refl
help_ends (Some text) more = text_ends text more

number_last_ends : (n : ℕ) → EndsWord (number_part n)
unfolding number_part
number_last_ends n = refl

text_last_ends : (text : List ℕ) → EndsWord (text_part text)
unfolding text_part
text_last_ends text = refl

help_last_ends : (help : Option (List ℕ)) → EndsWord (help_part help)
help_last_ends None = refl
help_last_ends (Some text) = text_last_ends text

-- The last part has nothing behind it.
last_number : (n : ℕ) → n < 4294967296 → take_as number32 (number_part n) ≡ Some (n, [])
last_number n h = ap (take_as number32) (sym (append-nil (number_part n))) ∙ number_is_read n [] h tt

last_text : (text : List ℕ) → All IsTextByte text → take_text (text_part text) ≡ Some (text, [])
last_text text h = ap take_text (sym (append-nil (text_part text))) ∙ text_is_read text [] h

last_help : (help : Option (List ℕ)) → IfSome help (All IsTextByte) → take_help (help_part help) ≡ Some (help, [])
last_help help h = ap take_help (sym (append-nil (help_part help))) ∙ help_is_read help [] h

-- which line a word begins
abbrev chosen : List ℕ → List ℕ → Option Line
chosen word left =
    cond (bytes_eq word (codes "mmv")) (mmv_line left)
    (cond (bytes_eq word (codes "string")) (string_line left)
    (cond (bytes_eq word (codes "indom")) (indom_line left)
    (cond (bytes_eq word (codes "instance")) (instance_line left)
    (cond (bytes_eq word (codes "metric")) (metric_line left)
    (cond (bytes_eq word (codes "value")) (value_line left) None)))))

line_of_word : (word parts : List ℕ) → IsWord word → EndsWord parts → line_of (word ++ parts) ≡ chosen word parts
unfolding line_of
line_of_word word parts h e = ap₂ chosen (first_word_of word parts h e) (behind_word_of word parts h e)

mmv_is_read : (version generation flags pid cluster : ℕ) → IsLine (lines.Mmv version generation flags pid cluster) →
    mmv_line (number_part version ++ (number_part generation ++ (number_part flags ++ (number_part pid ++ number_part cluster)))) ≡ Some (lines.Mmv version generation flags pid cluster)
unfolding mmv_line
mmv_is_read version generation flags pid cluster h =
    let e1 = number_is_read version (number_part generation ++ (number_part flags ++ (number_part pid ++ number_part cluster))) h.0 (number_ends generation _) in
    let e2 = wide_number_is_read generation (number_part flags ++ (number_part pid ++ number_part cluster)) h.1 (number_ends flags _) in
    let e3 = number_is_read flags (number_part pid ++ number_part cluster) h.2 (number_ends pid _) in
    let e4 = number_is_read pid (number_part cluster) h.3 (number_last_ends cluster) in
    rw (e1, e2, e3, e4, last_number cluster h.4)

string_is_read : (text : List ℕ) → All IsTextByte text → string_line (text_part text) ≡ Some (lines.String text)
unfolding string_line
string_is_read text h = rw (last_text text h)

indom_is_read : (serial : ℕ) (short long : Option (List ℕ)) → IsLine (lines.Indom serial short long) →
    indom_line (number_part serial ++ (help_part short ++ help_part long)) ≡ Some (lines.Indom serial short long)
unfolding indom_line
indom_is_read serial short long h =
    let e1 = number_is_read serial (help_part short ++ help_part long) h.0 (help_ends short _) in
    let e2 = help_is_read short (help_part long) h.1 in
    rw (e1, e2, last_help long h.2)

instance_is_read : (serial : ℕ) (id : ℤ) (name : List ℕ) → IsLine (lines.Instance serial id name) →
    instance_line (number_part serial ++ (int_part id ++ text_part name)) ≡ Some (lines.Instance serial id name)
unfolding instance_line
instance_is_read serial id name h =
    let e1 = number_is_read serial (int_part id ++ text_part name) h.0 (int_ends id _) in
    let e2 = int_is_read id (text_part name) h.1 (text_last_ends name) in
    rw (e1, e2, last_text name h.2)

-- a metric's parts in a row
metric_parts : (row : MetricRow) → codes_parts row ++ links_parts row ≡
    32 ∷ (row.name ++ (number_part row.item ++ (kind_part row.kind ++ (semantics_part row.semantics ++ (hex_part 8 row.units ++ (optional_number_part row.serial ++ (help_part row.short ++ help_part row.long)))))))
unfolding codes_parts links_parts
metric_parts row = simp append_assoc

metric_is_read : (row : MetricRow) → IsMetric row → metric_line (codes_parts row ++ links_parts row) ≡ Some (lines.Metric row)
unfolding metric_line
metric_is_read row h =
    let e1 = name_is_read row.name _ h.name (number_ends row.item (kind_part row.kind ++ (semantics_part row.semantics ++ (hex_part 8 row.units ++ (optional_number_part row.serial ++ (help_part row.short ++ help_part row.long)))))) in
    let e2 = number_is_read row.item _ h.item (kind_ends row.kind (semantics_part row.semantics ++ (hex_part 8 row.units ++ (optional_number_part row.serial ++ (help_part row.short ++ help_part row.long))))) in
    let e3 = kind_is_read row.kind _ (semantics_ends row.semantics (hex_part 8 row.units ++ (optional_number_part row.serial ++ (help_part row.short ++ help_part row.long)))) in
    let e4 = semantics_is_read row.semantics _ (hex_ends 8 row.units (optional_number_part row.serial ++ (help_part row.short ++ help_part row.long))) in
    let e5 = hex_is_read 8 row.units _ h.units (optional_number_ends row.serial (help_part row.short ++ help_part row.long)) in
    let e6 = optional_number_is_read row.serial _ h.serial (help_ends row.short (help_part row.long)) in
    let e7 = help_is_read row.short (help_part row.long) h.short in
    rw (metric_parts row, e1, e2, e3, e4, e5, e6, e7, last_help row.long h.long)

value_is_read : (item : ℕ) (instance : Option ℤ) (content : Written) → IsLine (lines.Value item instance content) →
    value_line (number_part item ++ (optional_int_part instance ++ content_part content)) ≡ Some (lines.Value item instance content)
unfolding value_line
value_is_read item instance content h =
    let e1 = number_is_read item _ h.0 (optional_int_ends instance (content_part content)) in
    let e2 = optional_int_is_read instance (content_part content) h.1 (content_ends content) in
    rw (e1, e2, content_is_read content h.2)

metric_ends : (row : MetricRow) → EndsWord (codes_parts row ++ links_parts row)
unfolding codes_parts
metric_ends row = refl

pub line_is_read : WrittenLineIsRead
unfolding line_text
line_is_read (lines.Mmv version generation flags pid cluster) h =
    line_of_word (codes "mmv") (number_part version ++ (number_part generation ++ (number_part flags ++ (number_part pid ++ number_part cluster)))) (plain_word (codes "mmv") refl) (number_ends version _)
    ∙ mmv_is_read version generation flags pid cluster h
line_is_read (lines.String text) h = line_of_word (codes "string") (text_part text) (plain_word (codes "string") refl) (text_last_ends text) ∙ string_is_read text h
line_is_read (lines.Indom serial short long) h =
    line_of_word (codes "indom") (number_part serial ++ (help_part short ++ help_part long)) (plain_word (codes "indom") refl) (number_ends serial _) ∙ indom_is_read serial short long h
line_is_read (lines.Instance serial id name) h =
    line_of_word (codes "instance") (number_part serial ++ (int_part id ++ text_part name)) (plain_word (codes "instance") refl) (number_ends serial _) ∙ instance_is_read serial id name h
line_is_read (lines.Metric row) h = line_of_word (codes "metric") (codes_parts row ++ links_parts row) (plain_word (codes "metric") refl) (metric_ends row) ∙ metric_is_read row h
line_is_read (lines.Value item instance content) h =
    line_of_word (codes "value") (number_part item ++ (optional_int_part instance ++ content_part content)) (plain_word (codes "value") refl) (number_ends item _) ∙ value_is_read item instance content h
