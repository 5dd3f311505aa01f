-- The lines of layout text: a word, and behind it the parts that this line has, each behind one space.
use Rattle.std.specs.Prelude.{ℕ, ◌==◌, if◌then◌else◌, List, length, Option, Some, None, codes, bytes_eq}
use Rattle.text_lines.specs.declared.layout_line.Line.{Line}
use Rattle.text_lines.specs.declared.layout_line.Line.TheVariants as lines
use Rattle.text_lines.specs.declared.layout_line.Written.{Written}
use Rattle.text_lines.specs.declared.layout_line.Written.TheVariants as written
use Rattle.text_lines.specs.Numbers.{◌>>=◌, number32, number64, int32, whole_number, hex_number}
use Rattle.text_lines.specs.Words.{first_word, behind_word, take_space, take_as, optional, starts_quoted, text_in_quotes, take_text, take_help, whole_line, name_of}
use Rattle.text_lines.specs.LayoutWords.{kind_of, semantics_of}

unfoldable pub mmv_line : List ℕ → Option Line
mmv_line bytes = do
  version ← take_as number32 bytes
  generation ← take_as number64 version.1
  flags ← take_as number32 generation.1
  pid ← take_as number32 flags.1
  cluster ← take_as number32 pid.1
  whole_line cluster.1 (lines.Mmv version.0 generation.0 flags.0 pid.0 cluster.0)

unfoldable pub string_line : List ℕ → Option Line
string_line bytes = do
  text ← take_text bytes
  whole_line text.1 (lines.String text.0)

unfoldable pub indom_line : List ℕ → Option Line
indom_line bytes = do
  serial ← take_as number32 bytes
  short ← take_help serial.1
  long ← take_help short.1
  whole_line long.1 (lines.Indom serial.0 short.0 long.0)

unfoldable pub instance_line : List ℕ → Option Line
instance_line bytes = do
  serial ← take_as number32 bytes
  id ← take_as int32 serial.1
  name ← take_text id.1
  whole_line name.1 (lines.Instance serial.0 id.0 name.0)

unfoldable pub metric_line : List ℕ → Option Line
metric_line bytes = do
  name ← take_as name_of bytes
  item ← take_as number32 name.1
  kind ← take_as kind_of item.1
  semantics ← take_as semantics_of kind.1
  units ← take_as (hex_number 8) semantics.1
  serial ← take_as (optional number32) units.1
  short ← take_help serial.1
  long ← take_help short.1
  whole_line long.1 (lines.Metric (record {
    name = name.0;
    item = item.0;
    kind = kind.0;
    semantics = semantics.0;
    units = units.0;
    serial = serial.0;
    short = short.0;
    long = long.0;
  }))

-- The content of a value, the last part of its line: a quoted text, a number, or two words of 16 hexadecimal digits.
unfoldable pub number_content : List ℕ → Option Written
number_content word = do
  n ← whole_number word
  Some (written.Number n)

unfoldable pub raw_content : List ℕ → List ℕ → Option Written
raw_content word left = do
  value ← hex_number 16 word
  extra ← take_as (hex_number 16) left
  whole_line extra.1 (written.Raw value extra.0)

unfoldable pub quoted_content : List ℕ → Option Written
quoted_content bytes = do
  text ← text_in_quotes bytes
  whole_line text.1 (written.Quoted text.0)

unfoldable pub words_content : List ℕ → Option Written
words_content bytes =
    if length (behind_word bytes) == 0 then number_content (first_word bytes) else
    raw_content (first_word bytes) (behind_word bytes)

unfoldable pub last_content : List ℕ → Option Written
last_content bytes = do
  s ← take_space bytes
  if starts_quoted s.1 then quoted_content s.1 else words_content s.1

unfoldable pub value_line : List ℕ → Option Line
value_line bytes = do
  item ← take_as number32 bytes
  instance ← take_as (optional int32) item.1
  content ← last_content instance.1
  Some (lines.Value item.0 instance.0 content)

-- The line of these bytes, which are without their line feed.
unfoldable pub line_of : List ℕ → Option Line
line_of bytes =
    if bytes_eq (first_word bytes) (codes "mmv") then mmv_line (behind_word bytes) else
    if bytes_eq (first_word bytes) (codes "string") then string_line (behind_word bytes) else
    if bytes_eq (first_word bytes) (codes "indom") then indom_line (behind_word bytes) else
    if bytes_eq (first_word bytes) (codes "instance") then instance_line (behind_word bytes) else
    if bytes_eq (first_word bytes) (codes "metric") then metric_line (behind_word bytes) else
    if bytes_eq (first_word bytes) (codes "value") then value_line (behind_word bytes) else None
