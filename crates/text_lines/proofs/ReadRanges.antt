-- What is read of a line's bytes is a line that may be written.
use Rattle.std.proofs.Common.{◌≡◌, ◌≢◌, ℕ, ◌==◌, cond, Bool, true, false, List, [], ◌∷◌, length, slice_index_or, codes, bytes_eq, subst, arith, Option, Some, None, All}
use Rattle.std.specs.List.{list_any}
use mathlib.Core.Logic.{⊎_elim}
use Rattle.std.proofs.lemmas.Bool.{eqb-false, eq-eqb, both_ways}
use Rattle.std.proofs.lemmas.List.Folds.{list_any_at}
use Rattle.std.proofs.lemmas.List.Elements.{All-drop}
use Rattle.mmv_layout.specs.declared.rows.MetricRow.{MetricRow}
use Rattle.text_lines.specs.declared.layout_line.Line.{Line}
use Rattle.text_lines.specs.declared.layout_line.Line.TheVariants as lines
use Rattle.text_lines.specs.declared.layout_line.Written.{Written}
use Rattle.text_lines.specs.declared.layout_line.Written.TheVariants as written
use Rattle.text_lines.specs.Laws.{IsLineByte, TakesOnly}
use Rattle.text_lines.specs.Numbers.{◌>>=◌, whole_number, hex_number}
use Rattle.text_lines.specs.Words.{first_word, behind_word, word_length, take_space, take_as, starts_quoted, text_in_quotes, whole_line, name_of}
use Rattle.text_lines.proofs.NumberRanges.{whole_range, hex_range, takes_numbers, takes_wide_numbers, takes_ints, takes_hex, takes_optional_numbers, takes_optional_ints}
use Rattle.text_lines.proofs.Taking.{word_taken, word_inside, both_steps, passed, either, same_some, none_some, takes_as}
use Rattle.text_lines.proofs.Splitting.{IsWord}
use Rattle.text_lines.proofs.TextRanges.{behind_space, quoted_takes, takes_texts, takes_helps}
use Rattle.text_lines.specs.LayoutLaws.{IsNameByte, IsLineName, IsMetric, IsWritten, IsLine, ReadLineIsLine}
use Rattle.text_lines.specs.LayoutLines.{mmv_line, string_line, indom_line, instance_line, metric_line, number_content, raw_content, quoted_content, words_content, last_content, value_line, line_of}
use Rattle.text_lines.specs.LayoutWords.{kind_of, semantics_of}

-- where nothing is left, the last step's line is the line
ended_is : {X : Type 0} (left : List ℕ) (x y : X) → whole_line left x ≡ Some y → x ≡ y
ended_is left x y e = (passed (length left == 0) x y e).1

mmv_range : (bytes : List ℕ) (line : Line) → All IsLineByte bytes → mmv_line bytes ≡ Some line → IsLine line
unfolding mmv_line
mmv_range bytes line h e =
    let (version, is1, next1) = both_steps _ _ line e in
    let (generation, is2, next2) = both_steps _ _ line next1 in
    let (flags, is3, next3) = both_steps _ _ line next2 in
    let (pid, is4, next4) = both_steps _ _ line next3 in
    let (cluster, is5, last) = both_steps _ _ line next4 in
    let a = takes_numbers bytes version.1 version.0 h is1 in
    let b = takes_wide_numbers version.1 generation.1 generation.0 a.1 is2 in
    let c = takes_numbers generation.1 flags.1 flags.0 b.1 is3 in
    let d = takes_numbers flags.1 pid.1 pid.0 c.1 is4 in
    let f = takes_numbers pid.1 cluster.1 cluster.0 d.1 is5 in
    subst IsLine (ended_is cluster.1 (lines.Mmv version.0 generation.0 flags.0 pid.0 cluster.0) line last) (a.0, b.0, c.0, d.0, f.0)

string_range : (bytes : List ℕ) (line : Line) → All IsLineByte bytes → string_line bytes ≡ Some line → IsLine line
unfolding string_line
string_range bytes line h e =
    let (text, is1, last) = both_steps _ _ line e in
    subst IsLine (ended_is text.1 (lines.String text.0) line last) (takes_texts bytes text.1 text.0 h is1).0

indom_range : (bytes : List ℕ) (line : Line) → All IsLineByte bytes → indom_line bytes ≡ Some line → IsLine line
unfolding indom_line
indom_range bytes line h e =
    let (serial, is1, next1) = both_steps _ _ line e in
    let (short, is2, next2) = both_steps _ _ line next1 in
    let (long, is3, last) = both_steps _ _ line next2 in
    let a = takes_numbers bytes serial.1 serial.0 h is1 in
    let b = takes_helps serial.1 short.1 short.0 a.1 is2 in
    let c = takes_helps short.1 long.1 long.0 b.1 is3 in
    subst IsLine (ended_is long.1 (lines.Indom serial.0 short.0 long.0) line last) (a.0, b.0, c.0)

instance_range : (bytes : List ℕ) (line : Line) → All IsLineByte bytes → instance_line bytes ≡ Some line → IsLine line
unfolding instance_line
instance_range bytes line h e =
    let (serial, is1, next1) = both_steps _ _ line e in
    let (id, is2, next2) = both_steps _ _ line next1 in
    let (name, is3, last) = both_steps _ _ line next2 in
    let a = takes_numbers bytes serial.1 serial.0 h is1 in
    let b = takes_ints serial.1 id.1 id.0 a.1 is2 in
    let c = takes_texts id.1 name.1 name.0 b.1 is3 in
    subst IsLine (ended_is name.1 (lines.Instance serial.0 id.0 name.0) line last) (a.0, b.0, c.0)

-- the bytes of a name
name_bytes : (word : List ℕ) → IsWord word → All IsLineByte word → list_any (λ c. c == 0) word ≡ false → All IsNameByte word
name_bytes word spaceless h zero k d l =
    let byte : IsLineByte (slice_index_or word k d) = h k d l in
    let some : slice_index_or word k d ≢ 0 = λ e. both_ways (list_any (λ c. c == 0) word) zero (list_any_at (λ c. c == 0) word k d l (eq-eqb (slice_index_or word k d) 0 e)) in
    ((omega arith, byte.0), byte.1, spaceless k d l)

name_range : (word name : List ℕ) → IsWord word → All IsLineByte word → name_of word ≡ Some name → IsLineName name
unfolding name_of
name_range [] name spaceless h e = cc
name_range (b ∷ bs) name spaceless h e =
    ⊎_elim (λ t. absurd (none_some name t.1))
    (λ t. ⊎_elim (λ u. absurd (none_some name u.1))
    (λ u. subst IsLineName (same_some (b ∷ bs) name u.1) (record { some = omega arith; unquoted = eqb-false b 34 t.0; bytes = name_bytes (b ∷ bs) spaceless h u.0 }))
    (either (list_any (λ c. c == 0) (b ∷ bs)) None (Some (b ∷ bs)) (Some name) t.1))
    (either (b == 34) None (cond (list_any (λ c. c == 0) (b ∷ bs)) None (Some (b ∷ bs))) (Some name) e)

takes_names : TakesOnly IsLineName (take_as name_of)
takes_names bytes left name h e =
    let was = word_taken name_of bytes left name e in
    (name_range was.word name was.spaceless (word_inside name_of bytes left name was IsLineByte h) was.reads, (takes_as (λ _. Unit {0}) name_of (λ _ _ _. tt) bytes left name h e).1)

metric_range : (bytes : List ℕ) (line : Line) → All IsLineByte bytes → metric_line bytes ≡ Some line → IsLine line
unfolding metric_line
metric_range bytes line h e =
    let (name, is1, next1) = both_steps _ _ line e in
    let (item, is2, next2) = both_steps _ _ line next1 in
    let (kind, is3, next3) = both_steps _ _ line next2 in
    let (semantics, is4, next4) = both_steps _ _ line next3 in
    let (units, is5, next5) = both_steps _ _ line next4 in
    let (serial, is6, next6) = both_steps _ _ line next5 in
    let (short, is7, next7) = both_steps _ _ line next6 in
    let (long, is8, last) = both_steps _ _ line next7 in
    let a = takes_names bytes name.1 name.0 h is1 in
    let b = takes_numbers name.1 item.1 item.0 a.1 is2 in
    let c = takes_as (λ _. Unit {0}) kind_of (λ _ _ _. tt) item.1 kind.1 kind.0 b.1 is3 in
    let d = takes_as (λ _. Unit {0}) semantics_of (λ _ _ _. tt) kind.1 semantics.1 semantics.0 c.1 is4 in
    let f = takes_hex 8 semantics.1 units.1 units.0 d.1 is5 in
    let g = takes_optional_numbers units.1 serial.1 serial.0 f.1 is6 in
    let i = takes_helps serial.1 short.1 short.0 g.1 is7 in
    let j = takes_helps short.1 long.1 long.0 i.1 is8 in
    let row : MetricRow = record { name = name.0; item = item.0; kind = kind.0; semantics = semantics.0; units = units.0; serial = serial.0; short = short.0; long = long.0 } in
    let fits : IsMetric row = record { name = a.0; item = b.0; units = f.0; serial = g.0; short = i.0; long = j.0 } in
    subst IsLine (ended_is long.1 (lines.Metric row) line last) fits

number_range : (word : List ℕ) (content : Written) → number_content word ≡ Some content → IsWritten content
unfolding number_content
number_range word content e =
    let (n, reads, is) = both_steps (whole_number word) (λ n. Some (written.Number n)) content e in
    subst IsWritten (same_some (written.Number n) content is) (whole_range word n reads)

raw_range : (word left : List ℕ) (content : Written) → raw_content word left ≡ Some content → IsWritten content
unfolding raw_content
raw_range word left content e =
    let (value, is1, next) = both_steps (hex_number 16 word) (λ v. take_as (hex_number 16) left >>= (λ x. whole_line x.1 (written.Raw v x.0))) content e in
    let (extra, is2, last) = both_steps (take_as (hex_number 16) left) (λ x. whole_line x.1 (written.Raw value x.0)) content next in
    let was = word_taken (hex_number 16) left extra.1 extra.0 is2 in
    subst IsWritten (ended_is extra.1 (written.Raw value extra.0) content last) (hex_range 16 word value is1, hex_range 16 was.word extra.0 was.reads)

quoted_range : (bytes : List ℕ) (content : Written) → All IsLineByte bytes → quoted_content bytes ≡ Some content → IsWritten content
unfolding quoted_content
quoted_range bytes content h e =
    let (text, is1, last) = both_steps (text_in_quotes bytes) (λ t. whole_line t.1 (written.Quoted t.0)) content e in
    subst IsWritten (ended_is text.1 (written.Quoted text.0) content last) (quoted_takes bytes text.1 text.0 h is1).0

words_range : (bytes : List ℕ) (content : Written) → words_content bytes ≡ Some content → IsWritten content
unfolding words_content
words_range bytes content e =
    ⊎_elim (λ t. number_range (first_word bytes) content t.1) (λ t. raw_range (first_word bytes) (behind_word bytes) content t.1)
    (either (length (behind_word bytes) == 0) (number_content (first_word bytes)) (raw_content (first_word bytes) (behind_word bytes)) (Some content) e)

content_range : (bytes : List ℕ) (content : Written) → All IsLineByte bytes → last_content bytes ≡ Some content → IsWritten content
unfolding last_content
content_range bytes content h e =
    let (s, spaced, next) = both_steps (take_space bytes) (λ s. cond (starts_quoted s.1) (quoted_content s.1) (words_content s.1)) content e in
    ⊎_elim (λ t. quoted_range s.1 content (behind_space bytes s.1 s.0 spaced h) t.1) (λ t. words_range s.1 content t.1)
    (either (starts_quoted s.1) (quoted_content s.1) (words_content s.1) (Some content) next)

value_range : (bytes : List ℕ) (line : Line) → All IsLineByte bytes → value_line bytes ≡ Some line → IsLine line
unfolding value_line
value_range bytes line h e =
    let (item, is1, next1) = both_steps _ _ line e in
    let (instance, is2, next2) = both_steps _ _ line next1 in
    let (content, is3, last) = both_steps _ _ line next2 in
    let a = takes_numbers bytes item.1 item.0 h is1 in
    let b = takes_optional_ints item.1 instance.1 instance.0 a.1 is2 in
    subst IsLine (same_some (lines.Value item.0 instance.0 content) line last) (a.0, b.0, content_range instance.1 content b.1 is3)

-- bytes behind a line's word
behind_line : (bytes : List ℕ) → All IsLineByte bytes → All IsLineByte (behind_word bytes)
unfolding behind_word
behind_line bytes h = All-drop IsLineByte (word_length bytes) bytes h

-- what a way gives is a line
abbrev Gives : Line → Option Line → Type 0
Gives line found = found ≡ Some line → IsLine line

-- one of two ways
tried : (line : Line) (test : Bool) (here others : Option Line) → Gives line here → Gives line others → Gives line (cond test here others)
tried line true here others f g = f
tried line false here others f g = g

-- six words are tried, one after the other
one_of : (line : Line) (a b c d f g : Bool) (k l m n p q : Option Line) → Gives line k → Gives line l → Gives line m → Gives line n → Gives line p → Gives line q → Gives line (cond a k (cond b l (cond c m (cond d n (cond f p (cond g q None))))))
one_of line a b c d f g k l m n p q hk hl hm hn hp hq =
    let sixth : Gives line (cond g q None) = tried line g q None hq (λ e. absurd (none_some line e)) in
    let fifth : Gives line (cond f p (cond g q None)) = tried line f p (cond g q None) hp sixth in
    let fourth : Gives line (cond d n (cond f p (cond g q None))) = tried line d n (cond f p (cond g q None)) hn fifth in
    let third : Gives line (cond c m (cond d n (cond f p (cond g q None)))) = tried line c m (cond d n (cond f p (cond g q None))) hm fourth in
    tried line a k (cond b l (cond c m (cond d n (cond f p (cond g q None))))) hk (tried line b l (cond c m (cond d n (cond f p (cond g q None)))) hl third)

pub line_range : ReadLineIsLine
unfolding line_of
line_range bytes line h =
    let behind = behind_line bytes h in
    let word = first_word bytes in
    let left = behind_word bytes in
    one_of line (bytes_eq word (codes "mmv")) (bytes_eq word (codes "string")) (bytes_eq word (codes "indom")) (bytes_eq word (codes "instance")) (bytes_eq word (codes "metric")) (bytes_eq word (codes "value"))
    (mmv_line left) (string_line left) (indom_line left) (instance_line left) (metric_line left) (value_line left)
    (mmv_range left line behind) (string_range left line behind) (indom_range left line behind) (instance_range left line behind) (metric_range left line behind) (value_range left line behind)
