-- The layout texts of the generated images.
use Rattle.std.proofs.Common.{◌≡◌, ℕ, zero, suc, ◌+◌, ◌≤◌, List, [], ◌∷◌, ◌++◌, length, min, Ok, Err, refl, ap, sym, subst, ◌∙◌, cond, arith}
use Rattle.std.proofs.lemmas.Bool.{le-leb}
use Rattle.std.specs.Prelude.{Bool, true, false, if◌then◌else◌, codes}
use Rattle.mmv_layout.specs.declared.rows.Layout.{Layout}
use Rattle.mmv_layout.specs.Sizes.{name_width, name_room}
use Rattle.mmv_writer.specs.Offsets.{sections_in}
use Rattle.mmv_writer.specs.Spelling.{image_words, all_strings, with_missing}
use Rattle.mmv_writer.proofs.Lengths.{length_spelled}
use Rattle.mmv_writer.specs.declared.line_fault.LineFault.TheVariants.{Build}
use Rattle.mmv_writer.specs.declared.line_fault.TextFault.{TextFault}
use Rattle.mmv_writer.specs.declared.fault.BuildFault.TheVariants.{TooLarge}
use Rattle.std.specs.Fmt.{digits}
use Rattle.text_lines.specs.Lines.{lines_of, prepend, without_feed}
use Rattle.text_lines.specs.Numbers.{number32, number64, whole_number, int32, hex_number}
use Rattle.text_lines.specs.Words.{take_as, take_word, first_word, behind_word, optional, text_byte, text_within, text_in_quotes, take_text, take_help, name_of}
use Rattle.text_lines.specs.LayoutWords.{kind_of, semantics_of}
use Rattle.text_lines.specs.LayoutLines.{line_of, mmv_line, indom_line, instance_line, metric_line, value_line, number_content, words_content, last_content}
use Rattle.mmv_writer.specs.Rules.{indom_fault, instance_fault, metric_fault, value_fault}
use Rattle.mmv_writer.specs.Draft.{empty_draft, with_domain, add_instance, with_instance, with_metric, with_value}
use Rattle.mmv_writer.specs.Reading.{text_image, image_of, text_draft, draft_of, with_lines, with_said, with_head, with_line, full_line_of, words_within_limit}
use Rattle.run_script.specs.Generated.{numbers, layout}

abbrev pub rows : List ℕ
rows = codes "\nindom 1 - -\ninstance 1 0 \"i0\"\ninstance 1 1 \"i1\"\ninstance 1 2 \"i2\"\ninstance 1 3 \"i3\"\ninstance 1 4 \"i4\"\ninstance 1 5 \"i5\"\ninstance 1 6 \"i6\"\ninstance 1 7 \"i7\"\ninstance 1 8 \"i8\"\ninstance 1 9 \"i9\"\ninstance 1 10 \"i10\"\ninstance 1 11 \"i11\"\ninstance 1 12 \"i12\"\ninstance 1 13 \"i13\"\ninstance 1 14 \"i14\"\ninstance 1 15 \"i15\"\nmetric c1 1 u32 counter 00100000 - - -\nmetric c2 2 u32 counter 00100000 - - -\nmetric c3 3 u32 counter 00100000 - - -\nmetric c4 4 u32 counter 00100000 - - -\nmetric c5 5 u32 counter 00100000 - - -\nmetric c6 6 u32 counter 00100000 - - -\nmetric c7 7 u32 counter 00100000 - - -\nmetric c8 8 u32 counter 00100000 - - -\nmetric c9 9 u32 counter 00100000 - - -\nmetric c10 10 u32 counter 00100000 - - -\nmetric c11 11 u32 counter 00100000 - - -\nmetric c12 12 u32 counter 00100000 - - -\nmetric per 13 u64 counter 00100000 1 - -\n"

abbrev pub values : List ℕ
values = codes "value 1 - 0\nvalue 2 - 0\nvalue 3 - 0\nvalue 4 - 0\nvalue 5 - 0\nvalue 6 - 0\nvalue 7 - 0\nvalue 8 - 0\nvalue 9 - 0\nvalue 10 - 0\nvalue 11 - 0\nvalue 12 - 0\nvalue 13 0 0\nvalue 13 1 0\nvalue 13 2 0\nvalue 13 3 0\nvalue 13 4 0\nvalue 13 5 0\nvalue 13 6 0\nvalue 13 7 0\nvalue 13 8 0\nvalue 13 9 0\nvalue 13 10 0\nvalue 13 11 0\nvalue 13 12 0\nvalue 13 13 0\nvalue 13 14 0\nvalue 13 15 0\n"

abbrev pub late : Bool → List ℕ
late has = if has then codes "metric late 14 i32 instant 00000000 - - -\n" else []

abbrev pub late_value : Bool → List ℕ
late_value has = if has then codes "value 14 - 0\n" else []

abbrev pub text : ℕ → Bool → List ℕ
text cluster has = ((((codes "mmv 1 1 0 0 " ++ (48 + cluster) ∷ []) ++ rows) ++ late has) ++ values) ++ late_value has

-- so the text has this layout
pub first_draft : text_draft (text 1 false) ≡ Ok (layout 1 false)
unfolding name_room text_draft draft_of with_lines with_said with_head with_line full_line_of lines_of prepend without_feed line_of mmv_line indom_line instance_line metric_line value_line number_content words_content last_content take_as take_word first_word behind_word optional text_byte text_within text_in_quotes take_text take_help number32 number64 whole_number int32 hex_number name_of kind_of semantics_of empty_draft with_domain add_instance with_instance with_metric with_value indom_fault instance_fault metric_fault value_fault layout numbers digits
first_draft = refl

pub second_draft : text_draft (text 2 false) ≡ Ok (layout 2 false)
unfolding name_room text_draft draft_of with_lines with_said with_head with_line full_line_of lines_of prepend without_feed line_of mmv_line indom_line instance_line metric_line value_line number_content words_content last_content take_as take_word first_word behind_word optional text_byte text_within text_in_quotes take_text take_help number32 number64 whole_number int32 hex_number name_of kind_of semantics_of empty_draft with_domain add_instance with_instance with_metric with_value indom_fault instance_fault metric_fault value_fault layout numbers digits
second_draft = refl

pub third_draft : text_draft (text 3 false) ≡ Ok (layout 3 false)
unfolding name_room text_draft draft_of with_lines with_said with_head with_line full_line_of lines_of prepend without_feed line_of mmv_line indom_line instance_line metric_line value_line number_content words_content last_content take_as take_word first_word behind_word optional text_byte text_within text_in_quotes take_text take_help number32 number64 whole_number int32 hex_number name_of kind_of semantics_of empty_draft with_domain add_instance with_instance with_metric with_value indom_fault instance_fault metric_fault value_fault layout numbers digits
third_draft = refl

pub late_draft : text_draft (text 1 true) ≡ Ok (layout 1 true)
unfolding name_room text_draft draft_of with_lines with_said with_head with_line full_line_of lines_of prepend without_feed line_of mmv_line indom_line instance_line metric_line value_line number_content words_content last_content take_as take_word first_word behind_word optional text_byte text_within text_in_quotes take_text take_help number32 number64 whole_number int32 hex_number name_of kind_of semantics_of empty_draft with_domain add_instance with_instance with_metric with_value indom_fault instance_fault metric_fault value_fault layout numbers digits
late_draft = refl

pub second_late_draft : text_draft (text 2 true) ≡ Ok (layout 2 true)
unfolding name_room text_draft draft_of with_lines with_said with_head with_line full_line_of lines_of prepend without_feed line_of mmv_line indom_line instance_line metric_line value_line number_content words_content last_content take_as take_word first_word behind_word optional text_byte text_within text_in_quotes take_text take_help number32 number64 whole_number int32 hex_number name_of kind_of semantics_of empty_draft with_domain add_instance with_instance with_metric with_value indom_fault instance_fault metric_fault value_fault layout numbers digits
second_late_draft = refl

pub third_late_draft : text_draft (text 3 true) ≡ Ok (layout 3 true)
unfolding name_room text_draft draft_of with_lines with_said with_head with_line full_line_of lines_of prepend without_feed line_of mmv_line indom_line instance_line metric_line value_line number_content words_content last_content take_as take_word first_word behind_word optional text_byte text_within text_in_quotes take_text take_help number32 number64 whole_number int32 hex_number name_of kind_of semantics_of empty_draft with_domain add_instance with_instance with_metric with_value indom_fault instance_fault metric_fault value_fault layout numbers digits
third_late_draft = refl

-- and its image is small
pub small : (cluster : ℕ) (has : Bool) → length (image_words (layout cluster has)) ≤ 2048
unfolding name_width image_words all_strings with_missing layout numbers sections_in
small cluster false = subst (λ n. n ≤ 2048) (sym (length_spelled (layout cluster false) [])) (omega arith)
small cluster true = subst (λ n. n ≤ 2048) (sym (length_spelled (layout cluster true) [])) (omega arith)

pub drawn : (bytes : List ℕ) (draft : Layout) → text_draft bytes ≡ Ok draft → length (image_words draft) ≤ 65536 → text_image bytes ≡ Ok (image_words draft)
unfolding text_image words_within_limit
drawn bytes draft said few =
    ap (λ found. image_of found (length (lines_of bytes) + 1)) said
    ∙ ap (λ b. cond b (Ok (image_words draft)) (Err (record { line = length (lines_of bytes) + 1; fault = Build (TooLarge (min (length (image_words draft)) 18446744073709551615)) }))) (le-leb (length (image_words draft)) 65536 few)

pub image_text : (cluster : ℕ) (has : Bool) → 1 ≤ cluster → cluster ≤ 3 → text_draft (text cluster has) ≡ Ok (layout cluster has) → text_image (text cluster has) ≡ Ok (image_words (layout cluster has))
image_text cluster has low high said = let few : length (image_words (layout cluster has)) ≤ 2048 = small cluster has in drawn (text cluster has) (layout cluster has) said (omega arith)

pub text_reads : (cluster : ℕ) (has : Bool) → 1 ≤ cluster → cluster ≤ 3 → text_image (text cluster has) ≡ Ok (image_words (layout cluster has))
text_reads zero has low high = absurd (omega arith)
text_reads (suc zero) false low high = image_text 1 false low high first_draft
text_reads (suc zero) true low high = image_text 1 true low high late_draft
text_reads (suc (suc zero)) false low high = image_text 2 false low high second_draft
text_reads (suc (suc zero)) true low high = image_text 2 true low high second_late_draft
text_reads (suc (suc (suc zero))) false low high = image_text 3 false low high third_draft
text_reads (suc (suc (suc zero))) true low high = image_text 3 true low high third_late_draft
text_reads (suc (suc (suc (suc n)))) has low high = absurd (omega arith)

-- five times bytes behind bytes
pub joined : {t0 t1 t2 t3 t4 t5 h : List ℕ} (d r l v w : List ℕ) → t0 ≡ h → t1 ≡ t0 ++ d → t2 ≡ t1 ++ r → t3 ≡ t2 ++ l → t4 ≡ t3 ++ v → t5 ≡ t4 ++ w
    → t5 ≡ ((((h ++ d) ++ r) ++ l) ++ v) ++ w
joined d r l v w e0 e1 e2 e3 e4 e5 =
    e5 ∙ ap (λ x. x ++ w) (e4 ∙ ap (λ x. x ++ v) (e3 ∙ ap (λ x. x ++ l) (e2 ∙ ap (λ x. x ++ r) (e1 ∙ ap (λ x. x ++ d) e0))))

pub only_image : (bytes : List ℕ) (image : List ℕ) {draft : List ℕ} → text_image bytes ≡ Ok image → text_image bytes ≡ Ok draft → image ≡ draft
only_image bytes image e f = cc (sym e ∙ f)

pub no_fault : (bytes : List ℕ) {draft : List ℕ} (fault : TextFault) → text_image bytes ≡ Err fault → text_image bytes ≡ Ok draft → ⊥
no_fault bytes fault e f = cc (sym e ∙ f)
