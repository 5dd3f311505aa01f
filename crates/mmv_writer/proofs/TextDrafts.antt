-- What a text says is a draft.
use Rattle.std.proofs.Common.{◌≡◌, ℕ, zero, suc, ◌+◌, ◌-◌, ◌<◌, ℤ, pos, negsuc, Bool, true, false, not, ◌&&◌, ◌||◌, cond, nat_eq, nat_le, nat_lt, List, [], ◌∷◌, refl, sym, ap, subst, ◌∙◌, arith, ⊎_elim, true≢false, Option, Some, None, option_map, Result, Ok, Err, All, IfSome, slice_index, get_or}
use Rattle.std.specs.List.{list_any}
use Rattle.std.proofs.lemmas.Bool.{eq-eqb}
use Rattle.pcp_base.specs.declared.kind.Kind.{Kind}
use Rattle.pcp_base.specs.declared.kind.Kind.TheVariants as kinds
use Rattle.mmv_layout.specs.declared.rows.IndomRow.{IndomRow}
use Rattle.mmv_layout.specs.declared.rows.MetricRow.{MetricRow}
use Rattle.mmv_layout.specs.declared.rows.ValueRow.{ValueRow}
use Rattle.mmv_layout.specs.declared.rows.Content.{Content}
use Rattle.mmv_layout.specs.declared.rows.Content.TheVariants as contents
use Rattle.mmv_layout.specs.declared.rows.Layout.{Layout}
use Rattle.mmv_layout.specs.Rows.{layout_of}
use Rattle.mmv_layout.proofs.Saying.{says_layout}
use Rattle.text_lines.specs.Laws.{IsLineByte, IsTextByte}
use Rattle.text_lines.specs.declared.layout_line.Line.{Line}
use Rattle.text_lines.specs.declared.layout_line.Line.TheVariants as lines
use Rattle.text_lines.specs.declared.layout_line.Written.{Written}
use Rattle.text_lines.specs.declared.layout_line.Written.TheVariants as written
use Rattle.text_lines.specs.Contents.{number_in_range, number_as, text_as, raw_as, content_of}
use Rattle.text_lines.specs.LayoutLaws.{IsLine, IsWritten}
use Rattle.text_lines.specs.Whole.{layout_text}
use Rattle.text_lines.proofs.ReadRanges.{line_range}
use Rattle.mmv_writer.specs.Spelling.{image_words}
use Rattle.mmv_writer.specs.declared.fault.BuildFault.{BuildFault}
use Rattle.mmv_writer.specs.declared.fault.BuildFault.TheVariants.{Name, Duplicate, Serial, Item}
use Rattle.mmv_writer.specs.declared.line_fault.LineFault.{LineFault}
use Rattle.mmv_writer.specs.declared.line_fault.TextFault.{TextFault}
use Rattle.mmv_writer.specs.Rules.{is_long_help, header_fault, indom_fault, instance_fault, metric_fault, is_metric_name, is_same_metric, lacks_domain, unknown_or, value_fault, is_long_content, text_fault}
use Rattle.mmv_writer.specs.Draft.{IsStored, IsHelp, IsContent, IsDraft, empty_draft, new_domain, with_domain, with_instance, with_metric, with_value, with_string}
use Rattle.mmv_writer.specs.Saying.{with_all_strings}
use Rattle.mmv_writer.specs.Reading.{said_by, full_line_of, unless, kind_in, with_content, with_written, with_line, with_said, with_head, and_then, with_lines, draft_of, text_draft}
use Rattle.mmv_writer.specs.TextLaws.{IsByte, MadeTextIsDumped}
use Rattle.mmv_writer.proofs.Rows.{either_left, either_right}
use Rattle.mmv_writer.proofs.Drafts.{indom_rules, value_rules, string_rule, domain_added, metric_added, value_added, string_added, instance_added, nothing_added}
use Rattle.mmv_writer.proofs.Sayings.{drafts_are_said}
use Rattle.text_lines.specs.Lines.{prepend, lines_of, without_feed}
use Rattle.text_lines.proofs.Feeds.{either, feed_lines, other_lines}

-- Texts

pub tail_all : {X : Type 0} (P : X → Type 0) (x : X) (xs : List X) → All P (x ∷ xs) → All P xs
tail_all P x xs h k d less = h (suc k) d (omega arith)

all_bytes : (text : List ℕ) → All IsTextByte text → (j : ℕ) → slice_index text j < 256
all_bytes [] h j = omega arith
all_bytes (b ∷ bs) h zero = (h 0 0 (omega arith)).1
all_bytes (b ∷ bs) h (suc j) = all_bytes bs (tail_all IsTextByte b bs h) j

stored_of : (text : List ℕ) → All IsTextByte text → IsStored text
stored_of text h = record {
  nonzero = λ k d less zero. let b : (0 < get_or text k d) × (get_or text k d < 256) = h k d less in absurd (omega arith);
  bytes = all_bytes text h;
}

help_of : (help : Option (List ℕ)) → IfSome help (All IsTextByte) → is_long_help help ≡ false → IsHelp help
help_of None h short = tt
help_of (Some text) h short = record { stored = stored_of text h; short = short }

-- Rows

taken : (found : Option BuildFault) (later after : Layout) → unless found later ≡ Ok after → (found ≡ None) × (later ≡ after)
taken None later after h = (refl, cc)
taken (Some fault) later after h = cc

metric_short : (a b c : Bool) (lacks : Option ℕ) (e : Bool) → cond (not a || b) (Some Name) (cond c (Some Duplicate) (unknown_or lacks (cond e None (Some Item)))) ≡ None → b ≡ false
metric_short false b c lacks e h = cc
metric_short true true c lacks e h = cc
metric_short true false c lacks e h = refl

metric_helps : (draft : Layout) (row : MetricRow) → metric_fault draft row ≡ None → (is_long_help row.short || is_long_help row.long) ≡ false
unfolding metric_fault
metric_helps draft row h =
    metric_short (is_metric_name draft.version row.name) (is_long_help row.short || is_long_help row.long) (list_any (λ other. is_same_metric other row) draft.metrics) (lacks_domain draft.indoms row.serial) (nat_le row.item 1023) h

number_there : (here : Bool) (n : ℕ) (text : List ℕ) → cond here (Some (contents.Number n)) None ≡ Some (contents.Choice text) → ⊥
number_there true n text h = cc
number_there false n text h = cc

ranged_number : (low high : ℕ) (n : ℤ) (text : List ℕ) → number_in_range low high n ≡ Some (contents.Choice text) → ⊥
ranged_number low high (pos n) text h = number_there (nat_le n high) n text h
ranged_number low high (negsuc n) text h = number_there (nat_lt n low) (18446744073709551615 - n) text h

number_no_text : (kind : Kind) (n : ℤ) (text : List ℕ) → number_as kind n ≡ Some (contents.Choice text) → ⊥
number_no_text kinds.I32 n text h = ranged_number 2147483648 2147483647 n text h
number_no_text kinds.U32 n text h = ranged_number 0 4294967295 n text h
number_no_text kinds.I64 n text h = ranged_number 9223372036854775808 9223372036854775807 n text h
number_no_text kinds.U64 n text h = ranged_number 0 18446744073709551615 n text h
number_no_text kinds.Float n text h = cc
number_no_text kinds.Double n text h = cc
number_no_text kinds.Text n text h = cc
number_no_text kinds.Elapsed n text h = cc

raw_no_text : (kind : Kind) (value extra : ℕ) (text : List ℕ) → raw_as kind value extra ≡ Some (contents.Choice text) → ⊥
raw_no_text kinds.I32 value extra text h = cc
raw_no_text kinds.U32 value extra text h = cc
raw_no_text kinds.I64 value extra text h = cc
raw_no_text kinds.U64 value extra text h = cc
raw_no_text kinds.Float value extra text h = cc
raw_no_text kinds.Double value extra text h = cc
raw_no_text kinds.Text value extra text h = cc
raw_no_text kinds.Elapsed value extra text h = cc

text_same : (kind : Kind) (found text : List ℕ) → text_as kind found ≡ Some (contents.Choice text) → found ≡ text
text_same kinds.I32 found text h = cc
text_same kinds.U32 found text h = cc
text_same kinds.I64 found text h = cc
text_same kinds.U64 found text h = cc
text_same kinds.Float found text h = cc
text_same kinds.Double found text h = cc
text_same kinds.Text found text h = cc
text_same kinds.Elapsed found text h = cc

content_is : (kind : Kind) (w : Written) (content : Content) → content_of kind w ≡ Some content → IsWritten w → is_long_content content ≡ false → IsContent content
content_is kind w (contents.Number n) h is short = tt
content_is kind w (contents.Raw value extra) h is short = tt
content_is kind (written.Number n) (contents.Choice text) h is short = absurd (number_no_text kind n text h)
content_is kind (written.Raw value extra) (contents.Choice text) h is short = absurd (raw_no_text kind value extra text h)
content_is kind (written.Quoted found) (contents.Choice text) h is short =
    record { stored = stored_of text (subst (All IsTextByte) (text_same kind found text h) is); short = short }

module _ (draft after : Layout) (d : IsDraft draft) where
  value_is : (item : ℕ) (instance : Option ℤ) (kind : Kind) (w : Written) (content : Option Content) → IsWritten w → content_of kind w ≡ content → with_content draft item instance content ≡ Ok after → IsDraft after
  value_is item instance kind w None is same h = cc
  value_is item instance kind w (Some content) is same h =
      let row : ValueRow = record { item = item; instance = instance; content = content } in
      let t : (value_fault draft row ≡ None) × (with_value draft row ≡ after) = taken (value_fault draft row) (with_value draft row) after h in
      subst IsDraft t.1 (value_added draft row d t.0 (content_is kind w content same is (value_rules draft row t.0).0))

  written_is : (item : ℕ) (instance : Option ℤ) (w : Written) (kind : Option Kind) → IsWritten w → with_written draft item instance w kind ≡ Ok after → IsDraft after
  written_is item instance w None is h = cc
  written_is item instance w (Some kind) is h = value_is item instance kind w (content_of kind w) is refl h

  -- a draft and a line more is a draft
  line_is : (line : Line) → IsLine line → with_line draft line ≡ Ok after → IsDraft after
  unfolding with_line
  line_is (lines.Mmv version generation flags pid cluster) l h = cc
  line_is (lines.String text) l h =
      let t : (text_fault text ≡ None) × (with_string draft text ≡ after) = taken (text_fault text) (with_string draft text) after h in
      subst IsDraft t.1 (string_added draft text d (record { stored = stored_of text l; short = string_rule text t.0 }))
  line_is (lines.Indom serial short long) l h =
      let row : IndomRow = new_domain serial short long in
      let t : (indom_fault draft row ≡ None) × (with_domain draft row ≡ after) = taken (indom_fault draft row) (with_domain draft row) after h in
      let s : (is_long_help short || is_long_help long) ≡ false = (indom_rules draft row t.0).0 in
      subst IsDraft t.1 (domain_added draft row d t.0 refl (help_of short l.1 (either_left _ _ s), help_of long l.2 (either_right _ _ s)))
  line_is (lines.Instance serial id name) l h =
      let t : (instance_fault draft serial id name ≡ None) × (with_instance draft serial id name ≡ after) = taken (instance_fault draft serial id name) (with_instance draft serial id name) after h in
      subst IsDraft t.1 (instance_added draft serial id name d t.0 (record { sfits = l.1 }) (stored_of name l.2))
  line_is (lines.Metric row) l h =
      let t : (metric_fault draft row ≡ None) × (with_metric draft row ≡ after) = taken (metric_fault draft row) (with_metric draft row) after h in
      let s : (is_long_help row.short || is_long_help row.long) ≡ false = metric_helps draft row t.0 in
      subst IsDraft t.1 (metric_added draft row d t.0 l.units (stored_of row.name (λ k b less. (l.name.bytes k b less).0)) (help_of row.short l.short (either_left _ _ s), help_of row.long l.long (either_right _ _ s)))
  line_is (lines.Value item instance w) l h = written_is item instance w (kind_in draft.metrics item) l.2 h

-- what bytes with a line feed say may be written
abbrev IsSaid : List ℕ → Type 0
IsSaid line = (l : Line) → full_line_of line ≡ Some l → IsLine l

said_is : (draft after : Layout) (found : Option Line) → ((l : Line) → found ≡ Some l → IsLine l) → IsDraft draft → with_said draft found ≡ Ok after → IsDraft after
unfolding with_said
said_is draft after None said d h = cc
said_is draft after (Some line) said d h = line_is draft after d line (said line refl) h

abbrev read_as : Layout → Result Layout TextFault
read_as draft = Ok draft

same_draft : (draft after : Layout) → read_as draft ≡ read_as after → draft ≡ after
same_draft draft after h = cc

-- further lines
rest_is : (lines : List (List ℕ)) (number : ℕ) (draft after : Layout) → All IsSaid lines → IsDraft draft → with_lines lines number draft ≡ Ok after → IsDraft after
unfolding with_lines
rest_is [] number draft after said d h = subst IsDraft (same_draft draft after h) d
rest_is (line ∷ lines) number draft after said d h =
    next (with_said draft (full_line_of line)) refl (λ later e more. rest_is lines (number + 1) later after (tail_all IsSaid line lines said) (said_is draft later (full_line_of line) (said 0 [] (omega arith)) d e) more) h
  where
    next : (found : Result Layout LineFault) → with_said draft (full_line_of line) ≡ found → ((later : Layout) → with_said draft (full_line_of line) ≡ Ok later → with_lines lines (number + 1) later ≡ Ok after → IsDraft after) → and_then found number (λ later. with_lines lines (number + 1) later) ≡ Ok after → IsDraft after
    next (Err fault) same goes h = cc
    next (Ok later) same goes h = goes later same h

head_is : (draft : Layout) (found : Option Line) → ((l : Line) → found ≡ Some l → IsLine l) → with_head found ≡ Ok draft → IsDraft draft
unfolding with_head
head_is draft None said h = cc
head_is draft (Some (lines.Mmv version generation flags pid cluster)) said h =
    let l : IsLine (lines.Mmv version generation flags pid cluster) = said (lines.Mmv version generation flags pid cluster) refl in
    let t : (header_fault version cluster ≡ None) × (empty_draft version generation flags pid cluster ≡ draft) = taken (header_fault version cluster) (empty_draft version generation flags pid cluster) draft h in
    subst IsDraft t.1 (nothing_added version generation flags pid cluster t.0 l.2 l.3)
head_is draft (Some (lines.String text)) said h = cc
head_is draft (Some (lines.Indom serial short long)) said h = cc
head_is draft (Some (lines.Instance serial id name)) said h = cc
head_is draft (Some (lines.Metric row)) said h = cc
head_is draft (Some (lines.Value item instance w)) said h = cc

lines_are : (lines : List (List ℕ)) (draft : Layout) → All IsSaid lines → draft_of lines ≡ Ok draft → IsDraft draft
unfolding draft_of
lines_are [] draft said h = cc
lines_are (line ∷ lines) draft said h = next (with_head (full_line_of line)) refl h
  where
    next : (found : Result Layout LineFault) → with_head (full_line_of line) ≡ found → and_then found 1 (λ first. with_lines lines 2 first) ≡ Ok draft → IsDraft draft
    next (Err fault) same h = cc
    next (Ok first) same h = rest_is lines 2 first draft (tail_all IsSaid line lines said) (head_is first (full_line_of line) (said 0 [] (omega arith)) same) h

-- Bytes

pub cons_all : {X : Type 0} (P : X → Type 0) (x : X) (xs : List X) → P x → All P xs → All P (x ∷ xs)
cons_all P x xs here more zero d less = here
cons_all P x xs here more (suc k) d less = more k d (omega arith)

pub no_all : {X : Type 0} (P : X → Type 0) → All P []
no_all P k d less = absurd (omega arith)

-- no line feed stands before the one at the end
abbrev IsOneLine : List ℕ → Type 0
IsOneLine line = (text : List ℕ) → without_feed line ≡ Some text → All IsLineByte text

feed_is_one : IsOneLine (10 ∷ [])
unfolding without_feed
feed_is_one text e = let same : [] ≡ text = cc in subst (All IsLineByte) same (no_all IsLineByte)

module _ (b : ℕ) (byte : b < 256) (other : nat_eq b 10 ≡ false) where
  is_line_byte : IsLineByte b
  is_line_byte = (byte, λ e. true≢false (sym (eq-eqb b 10 e) ∙ other))

  alone_is_one : IsOneLine (b ∷ [])
  unfolding without_feed
  alone_is_one text e = let none : None ≡ Some text = sym (ap (λ q. cond q (Some []) None) other) ∙ e in cc

  longer_is_one : (line : List ℕ) → IsOneLine line → IsOneLine (b ∷ line)
  unfolding without_feed
  longer_is_one [] one text e = alone_is_one text e
  longer_is_one (c ∷ cs) one text e = next (without_feed (c ∷ cs)) one e
    where
      next : (found : Option (List ℕ)) → ((t : List ℕ) → found ≡ Some t → All IsLineByte t) → option_map (λ t. b ∷ t) found ≡ Some text → All IsLineByte text
      next None one e = cc
      next (Some t) one e = let same : b ∷ t ≡ text = cc in subst (All IsLineByte) same (cons_all IsLineByte b t is_line_byte (one t refl))

  prepend_one : (lines : List (List ℕ)) → All IsOneLine lines → All IsOneLine (prepend b lines)
  unfolding prepend
  prepend_one [] all = cons_all IsOneLine (b ∷ []) [] alone_is_one (no_all IsOneLine)
  prepend_one (line ∷ lines) all = cons_all IsOneLine (b ∷ line) lines (longer_is_one line (all 0 [] (omega arith))) (tail_all IsOneLine line lines all)

ones : (bytes : List ℕ) → All IsByte bytes → All IsOneLine (lines_of bytes)
unfolding lines_of
ones [] h = no_all IsOneLine
ones (b ∷ bs) h =
    ⊎_elim
    (λ (q : nat_eq b 10 ≡ true). subst (All IsOneLine) (sym (feed_lines b bs q)) (cons_all IsOneLine (10 ∷ []) (lines_of bs) feed_is_one (ones bs (tail_all IsByte b bs h))))
    (λ (q : nat_eq b 10 ≡ false). subst (All IsOneLine) (sym (other_lines b bs q)) (prepend_one b (h 0 0 (omega arith)) q (lines_of bs) (ones bs (tail_all IsByte b bs h))))
    (either (nat_eq b 10))

one_is_said : (line : List ℕ) → IsOneLine line → IsSaid line
unfolding full_line_of
one_is_said line one l h = next (without_feed line) one h
  where
    next : (found : Option (List ℕ)) → ((t : List ℕ) → found ≡ Some t → All IsLineByte t) → said_by found ≡ Some l → IsLine l
    next None one h = cc
    next (Some t) one h = line_range t l (one t refl) h

-- what a text says is a draft
pub text_is : (bytes : List ℕ) (draft : Layout) → All IsByte bytes → text_draft bytes ≡ Ok draft → IsDraft draft
unfolding text_draft
text_is bytes draft b h = lines_are (lines_of bytes) draft (λ k d less. one_is_said (get_or (lines_of bytes) k d) (ones bytes b k d less)) h

pub made_text_is_dumped : MadeTextIsDumped
made_text_is_dumped bytes draft b h few =
    let same : with_all_strings draft ≡ layout_of (image_words draft) = says_layout (image_words draft) (with_all_strings draft) (drafts_are_said draft (text_is bytes draft b h) few) in
    (sym same, ap layout_text (sym same))
