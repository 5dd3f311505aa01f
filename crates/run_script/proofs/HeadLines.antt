-- The head of a generated script is read as its images, its regions and its group.
use Rattle.std.proofs.Common.{◌≡◌, ℕ, ◌+◌, ◌≤◌, Bool, true, false, cond, not, ◌&&◌, List, [], ◌∷◌, ◌++◌, length, min, refl, sym, ap, ◌∙◌, arith, codes, le-leb, None, Ok, Err}
use Rattle.std.specs.Fmt.{digits}
use Rattle.mmv_layout.specs.Fields.{number32, number64}
use Rattle.mmv_layout.specs.Contents.{cluster_in}
use Rattle.mmv_writer.specs.Spelling.{header_words, image_with_strings, image_words}
use Rattle.text_lines.specs.Lines.{prepend, lines_of}
use Rattle.text_lines.specs.Spelling.{number_part, int_part, text_part, hex_part, hex_text, quoted_text}
use Rattle.text_lines.specs.Words.{take_as, take_word, first_word, behind_word, name_of}
use Rattle.text_lines.specs.LayoutSpelling.{codes_parts, links_parts, line_text, full_line}
use Rattle.text_lines.specs.Whole.{indom_text, value_text, layout_text}
use Rattle.run_script.specs.HeadLines.{image_line, region_line, start_line, head_line}
use Rattle.mmv_writer.specs.declared.line_fault.LineFault.TheVariants.{Condition, Build}
use Rattle.mmv_writer.specs.declared.fault.BuildFault.TheVariants.{TooLarge}
use Rattle.mmv_writer.specs.Reading.{text_draft}
use Rattle.run_script.specs.declared.fault.ScriptLineFault.TheVariants.{Line}
use Rattle.run_script.specs.declared.script.RegionRow.{RegionRow}
use Rattle.run_script.specs.declared.said.Said.{Said}
use Rattle.run_script.specs.declared.said.Stage.TheVariants as stages
use Rattle.run_script.specs.Said.{nothing}
use Rattle.pcp_base.specs.Names.{spells_component}
use Rattle.run_script.specs.Heads.{has_file, has_cluster, fits_image, may_open, with_row, region_at, statement_of}
use Rattle.run_script.specs.Reading.{in_head, with_head_line, with_image, with_image_line, with_script_line, with_script_lines}
use Rattle.run_script.specs.Generated.{numbers, layout, images, region, regions, group}
use Rattle.run_script.specs.GeneratedText.{with_feed, image_text, images_text, front_text}
use Rattle.run_script.proofs.Texts.{text, first_draft, second_draft, third_draft, late_draft, small}
use Rattle.run_script.proofs.Passing.{is_line, Passes, line_passes, both_pass, draft_passes}

-- Images

-- the text of a layout is written so, which lines make a draft of it, and whatever stands behind them comes behind them
record IsWritten (cluster : ℕ) (late : Bool) (count : ℕ) : Type 0 where
  written : layout_text (layout cluster late) ≡ text cluster late
  said : text_draft (text cluster late) ≡ Ok (layout cluster late)
  behind : (rest : List ℕ) → lines_of (text cluster late ++ rest) ≡ lines_of (text cluster late) ++ lines_of rest
  counted : length (lines_of (text cluster late)) ≡ count

first_written : IsWritten 1 false 59
unfolding layout_text layout numbers indom_text value_text full_line line_text codes_parts links_parts number_part int_part text_part hex_part hex_text quoted_text digits lines_of prepend
first_written = record { written = refl; said = first_draft; behind = λ rest. refl; counted = refl }

second_written : IsWritten 2 false 59
unfolding layout_text layout numbers indom_text value_text full_line line_text codes_parts links_parts number_part int_part text_part hex_part hex_text quoted_text digits lines_of prepend
second_written = record { written = refl; said = second_draft; behind = λ rest. refl; counted = refl }

third_written : IsWritten 3 false 59
unfolding layout_text layout numbers indom_text value_text full_line line_text codes_parts links_parts number_part int_part text_part hex_part hex_text quoted_text digits lines_of prepend
third_written = record { written = refl; said = third_draft; behind = λ rest. refl; counted = refl }

late_written : IsWritten 1 true 61
unfolding layout_text layout numbers indom_text value_text full_line line_text codes_parts links_parts number_part int_part text_part hex_part hex_text quoted_text digits lines_of prepend
late_written = record { written = refl; said = late_draft; behind = λ rest. refl; counted = refl }

abbrev with_one : Said → List ℕ → ℕ → Bool → Said
with_one said name cluster late = record said { images = said.images ++ (name, image_words (layout cluster late)) ∷ [] }

module _ (said : Said) (name : List ℕ) (cluster : ℕ) (late : Bool) (count : ℕ) (is : IsWritten cluster late count) where
  rows_pass : (n : ℕ) → Passes (layout_text (layout cluster late)) n (stages.Opening name, said) (n + count) (stages.Image name (layout cluster late), said)
  unfolding text_draft
  rows_pass n rest =
      ap (λ bytes. with_script_lines (lines_of (bytes ++ rest)) n (stages.Opening name, said)) is.written
      ∙ ap (λ lines. with_script_lines lines n (stages.Opening name, said)) (is.behind rest)
      ∙ draft_passes name said (lines_of (text cluster late)) (lines_of rest) n (layout cluster late) is.said
      ∙ ap (λ k. with_script_lines (lines_of rest) (n + k) (stages.Image name (layout cluster late), said)) is.counted

  end_passes : (n : ℕ) → Passes (codes "end\n") n (stages.Image name (layout cluster late), said) (n + 1) (stages.Head, with_one said name cluster late)
  unfolding with_script_line with_image_line with_image
  end_passes n =
      let few : length (image_words (layout cluster late)) ≤ 2048 = small cluster late in
      line_passes (codes "end") n (stages.Image name (layout cluster late), said) (stages.Head, with_one said name cluster late) refl
      (ap (λ b. cond b (Ok (stages.Head, with_one said name cluster late)) (Err (Line (Build (TooLarge (min (length (image_words (layout cluster late))) 18446744073709551615))))))
      (le-leb (length (image_words (layout cluster late))) 65536 (omega arith)))

  image_passes : (n m : ℕ) → is_line name ≡ true → with_script_line n (stages.Head, said) (codes "image " ++ name) ≡ Ok (stages.Opening name, said) → m ≡ (n + 1 + count) + 1
      → Passes (image_text name cluster late) n (stages.Head, said) m (stages.Head, with_one said name cluster late)
  unfolding image_text
  image_passes n m line opens at rest =
      both_pass (with_feed (codes "image " ++ name)) (layout_text (layout cluster late) ++ codes "end\n") n (n + 1) ((n + 1 + count) + 1) (stages.Head, said) (stages.Opening name, said) (stages.Head, with_one said name cluster late)
      (line_passes (codes "image " ++ name) n (stages.Head, said) (stages.Opening name, said) line opens)
      (both_pass (layout_text (layout cluster late)) (codes "end\n") (n + 1) (n + 1 + count) ((n + 1 + count) + 1) (stages.Opening name, said) (stages.Image name (layout cluster late), said) (stages.Head, with_one said name cluster late)
      (rows_pass (n + 1)) (end_passes (n + 1 + count)))
      rest
      ∙ ap (λ k. with_script_lines (lines_of rest) k (stages.Head, with_one said name cluster late)) (sym at)

abbrev one : Said
one = with_one nothing (codes "r0") 1 false

abbrev two : Said
two = with_one one (codes "r1") 2 false

abbrev three : Said
three = with_one two (codes "r2") 3 false

abbrev four : Said
four = with_one three (codes "r0late") 1 true

first_opens : with_script_line 1 (stages.Head, nothing) (codes "image r0") ≡ Ok (stages.Opening (codes "r0"), nothing)
unfolding with_script_line with_head_line head_line image_line take_as take_word first_word behind_word name_of
first_opens = refl

second_opens : with_script_line 62 (stages.Head, one) (codes "image r1") ≡ Ok (stages.Opening (codes "r1"), one)
unfolding with_script_line with_head_line head_line image_line take_as take_word first_word behind_word name_of
second_opens = refl

third_opens : with_script_line 123 (stages.Head, two) (codes "image r2") ≡ Ok (stages.Opening (codes "r2"), two)
unfolding with_script_line with_head_line head_line image_line take_as take_word first_word behind_word name_of
third_opens = refl

late_opens : with_script_line 184 (stages.Head, three) (codes "image r0late") ≡ Ok (stages.Opening (codes "r0late"), three)
unfolding with_script_line with_head_line head_line image_line take_as take_word first_word behind_word name_of
late_opens = refl

images_pass : Passes images_text 1 (stages.Head, nothing) 247 (stages.Head, four)
unfolding images_text
images_pass =
    both_pass (image_text (codes "r0") 1 false) (image_text (codes "r1") 2 false ++ (image_text (codes "r2") 3 false ++ image_text (codes "r0late") 1 true)) 1 62 247 (stages.Head, nothing) (stages.Head, one) (stages.Head, four)
    (image_passes nothing (codes "r0") 1 false 59 first_written 1 62 refl first_opens refl)
    (both_pass (image_text (codes "r1") 2 false) (image_text (codes "r2") 3 false ++ image_text (codes "r0late") 1 true) 62 123 247 (stages.Head, one) (stages.Head, two) (stages.Head, four)
    (image_passes one (codes "r1") 2 false 59 second_written 62 123 refl second_opens refl)
    (both_pass (image_text (codes "r2") 3 false) (image_text (codes "r0late") 1 true) 123 184 247 (stages.Head, two) (stages.Head, three) (stages.Head, four)
    (image_passes two (codes "r2") 3 false 59 third_written 123 184 refl third_opens refl)
    (image_passes three (codes "r0late") 1 true 61 late_written 184 247 refl late_opens refl)))

-- Regions

-- a region whose image is small may be added
may : (said : Said) (file words : List ℕ) → (spells_component file && not (has_file said.regions file)) ≡ true → length words ≤ 2048 → has_cluster said.images said.regions (cluster_in words) ≡ false
    → may_open said file words 2048 4 ≡ true
may said file words named few apart =
    ap (λ b. (b && fits_image words 2048 4) && not (has_cluster said.images said.regions (cluster_in words))) named
    ∙ ap (λ b. ((b && true) && true) && not (has_cluster said.images said.regions (cluster_in words))) (le-leb (length words) 2048 few)
    ∙ ap not apart

abbrev row_of : ℕ → RegionRow
row_of k = region (codes "r" ++ (48 + k) ∷ []) k

abbrev five : Said
five = with_row four (row_of 0)

abbrev six : Said
six = with_row five (row_of 1)

abbrev seven : Said
seven = with_row six (row_of 2)

first_region : with_script_line 247 (stages.Head, four) (codes "region r0 r0 2048 4") ≡ Ok (stages.Head, five)
unfolding with_script_line with_head_line head_line region_line take_as take_word first_word behind_word name_of region_at
first_region =
    ap (λ b. in_head (cond b (Ok five) (Err (Line Condition))))
    (may four (codes "r0") (image_words (layout 1 false)) refl (small 1 false) refl)

second_apart : has_cluster five.images five.regions (cluster_in (image_words (layout 2 false))) ≡ false
unfolding image_words image_with_strings header_words layout number32 number64
second_apart = refl

second_region : with_script_line 248 (stages.Head, five) (codes "region r1 r1 2048 4") ≡ Ok (stages.Head, six)
unfolding with_script_line with_head_line head_line region_line take_as take_word first_word behind_word name_of region_at
second_region =
    ap (λ b. in_head (cond b (Ok six) (Err (Line Condition))))
    (may five (codes "r1") (image_words (layout 2 false)) refl (small 2 false) second_apart)

third_apart : has_cluster six.images six.regions (cluster_in (image_words (layout 3 false))) ≡ false
unfolding image_words image_with_strings header_words layout number32 number64
third_apart = refl

third_region : with_script_line 249 (stages.Head, six) (codes "region r2 r2 2048 4") ≡ Ok (stages.Head, seven)
unfolding with_script_line with_head_line head_line region_line take_as take_word first_word behind_word name_of region_at
third_region =
    ap (λ b. in_head (cond b (Ok seven) (Err (Line Condition))))
    (may six (codes "r2") (image_words (layout 3 false)) refl (small 3 false) third_apart)

-- The group, and the line before the steps

abbrev eight : Said
eight = record seven { groups = group ∷ [] }

log_line : with_script_line 250 (stages.Head, seven) (codes "log mandatory on every 1 sec { mmv }") ≡ Ok (stages.Head, eight)
unfolding with_script_line with_head_line head_line first_word statement_of
log_line = refl

start : with_script_line 251 (stages.Head, eight) (codes "start") ≡ Ok (stages.Steps, eight)
unfolding with_script_line with_head_line head_line start_line first_word behind_word
start = refl

front_passes : Passes front_text 247 (stages.Head, four) 252 (stages.Steps, eight)
unfolding front_text
front_passes =
    both_pass (codes "region r0 r0 2048 4\n") (codes "region r1 r1 2048 4\nregion r2 r2 2048 4\nlog mandatory on every 1 sec { mmv }\nstart\n") 247 248 252 (stages.Head, four) (stages.Head, five) (stages.Steps, eight)
    (line_passes (codes "region r0 r0 2048 4") 247 (stages.Head, four) (stages.Head, five) refl first_region)
    (both_pass (codes "region r1 r1 2048 4\n") (codes "region r2 r2 2048 4\nlog mandatory on every 1 sec { mmv }\nstart\n") 248 249 252 (stages.Head, five) (stages.Head, six) (stages.Steps, eight)
    (line_passes (codes "region r1 r1 2048 4") 248 (stages.Head, five) (stages.Head, six) refl second_region)
    (both_pass (codes "region r2 r2 2048 4\n") (codes "log mandatory on every 1 sec { mmv }\nstart\n") 249 250 252 (stages.Head, six) (stages.Head, seven) (stages.Steps, eight)
    (line_passes (codes "region r2 r2 2048 4") 249 (stages.Head, six) (stages.Head, seven) refl third_region)
    (both_pass (codes "log mandatory on every 1 sec { mmv }\n") (codes "start\n") 250 251 252 (stages.Head, seven) (stages.Head, eight) (stages.Steps, eight)
    (line_passes (codes "log mandatory on every 1 sec { mmv }") 250 (stages.Head, seven) (stages.Head, eight) refl log_line)
    (line_passes (codes "start") 251 (stages.Head, eight) (stages.Steps, eight) refl start))))

-- what is said before the first step
abbrev pub before_steps : Said
before_steps = record { images = images; regions = regions; groups = group ∷ []; steps = []; last = None }

pub head_passes : Passes (images_text ++ front_text) 1 (stages.Head, nothing) 252 (stages.Steps, before_steps)
unfolding images regions
head_passes = both_pass images_text front_text 1 247 252 (stages.Head, nothing) (stages.Head, four) (stages.Steps, before_steps) images_pass front_passes
