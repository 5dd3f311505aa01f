-- Bytes that take what a script says from one point to another, whatever stands behind them.
use Rattle.std.proofs.Common.{◌≡◌, ℕ, suc, ◌+◌, Bool, true, false, cond, not, ◌==◌, List, [], ◌∷◌, ◌++◌, length, refl, ap, subst, ◌∙◌, arith, append_assoc, codes, bytes_eq, Option, Some, None, Result, Ok, Err}
use Rattle.std.specs.List.{list_all}
use Rattle.std.proofs.lemmas.Slice.Eq.{bytes_eq-Decides}
use Rattle.mmv_layout.specs.declared.rows.Layout.{Layout}
use Rattle.mmv_writer.specs.Spelling.{image_words}
use Rattle.text_lines.specs.Lines.{prepend, lines_of, without_feed}
use Rattle.text_lines.specs.Words.{first_word}
use Rattle.text_lines.proofs.Feeds.{fed, feed_lines, other_lines}
use Rattle.text_lines.specs.LayoutLines.{line_of}
use Rattle.mmv_writer.specs.declared.line_fault.LineFault.{LineFault}
use Rattle.mmv_writer.specs.Reading.{full_line_of, said_by, with_said, with_head, with_lines, draft_of, and_then as and_rows}
use Rattle.run_script.specs.declared.said.Said.{Said}
use Rattle.run_script.specs.declared.said.Stage.TheVariants as stages
use Rattle.run_script.specs.Reading.{Point, in_image, with_image, with_image_line, with_script_line, with_full_line, and_then, with_script_lines}
use Rattle.run_script.specs.GeneratedText.{with_feed}
use Rattle.run_script.proofs.Growing.{both, not_true}

-- no byte is a line feed
abbrev pub is_line : List ℕ → Bool
is_line bytes = list_all (λ b. not (b == 10)) bytes

line_before : (line rest : List ℕ) → is_line line ≡ true → lines_of (line ++ 10 ∷ rest) ≡ with_feed line ∷ lines_of rest
unfolding prepend
line_before [] rest h = feed_lines 10 rest refl
line_before (b ∷ bs) rest h =
    let tests = both (not (b == 10)) (is_line bs) h in
    other_lines b (bs ++ 10 ∷ rest) (not_true (b == 10) tests.0) ∙ ap (prepend b) (line_before bs rest tests.1)

-- bytes take a point, at a line of this number, to another
abbrev pub Passes : List ℕ → ℕ → Point → ℕ → Point → Type 0
Passes bytes n p m q = (rest : List ℕ) → with_script_lines (lines_of (bytes ++ rest)) n p ≡ with_script_lines (lines_of rest) m q

pub line_passes : (line : List ℕ) (n : ℕ) (p q : Point) → is_line line ≡ true → with_script_line n p line ≡ Ok q → Passes (with_feed line) n p (n + 1) q
unfolding with_script_lines
line_passes line n p q is h rest =
    ap (λ bytes. with_script_lines (lines_of bytes) n p) (append_assoc line (10 ∷ []) rest)
    ∙ ap (λ lines. with_script_lines lines n p) (line_before line rest is)
    ∙ ap (λ o. and_then (with_full_line n p o) n (λ later. with_script_lines (lines_of rest) (n + 1) later)) (fed line)
    ∙ ap (λ found. and_then found n (λ later. with_script_lines (lines_of rest) (n + 1) later)) h

pub both_pass : (a b : List ℕ) (n m k : ℕ) (p q r : Point) → Passes a n p m q → Passes b m q k r → Passes (a ++ b) n p k r
both_pass a b n m k p q r f g rest = ap (λ bytes. with_script_lines (lines_of bytes) n p) (append_assoc a b rest) ∙ f (b ++ rest) ∙ g rest

-- The lines of an image

-- no line of a layout is `end`
no_end : (draft later : Layout) → with_said draft (line_of (codes "end")) ≡ Ok later → ⊥
unfolding with_said line_of first_word
no_end draft later h = cc h

module _ (name : List ℕ) (said : Said) where
  module _ (n : ℕ) (draft later : Layout) where
    row_passes : (o : Option (List ℕ)) → with_said draft (said_by o) ≡ Ok later → with_full_line n (stages.Image name draft, said) o ≡ Ok (stages.Image name later, said)
    unfolding with_said with_script_line with_image_line
    row_passes None h = cc h
    row_passes (Some text) h = by (bytes_eq text (codes "end")) refl
      where
        by : (b : Bool) → bytes_eq text (codes "end") ≡ b → cond b (with_image name said (image_words draft)) (in_image name said (with_said draft (line_of text))) ≡ Ok (stages.Image name later, said)
        by true e = absurd (no_end draft later (subst (λ t. with_said draft (line_of t) ≡ Ok later) ((bytes_eq-Decides text (codes "end")).0 e) h))
        by false e = ap (in_image name said) h

  rows_pass : (lines more : List (List ℕ)) (n k : ℕ) (draft after : Layout) → with_lines lines k draft ≡ Ok after
      → with_script_lines (lines ++ more) n (stages.Image name draft, said) ≡ with_script_lines more (n + length lines) (stages.Image name after, said)
  unfolding with_lines with_script_lines full_line_of
  rows_pass [] more n k draft after h =
      let same : draft ≡ after = cc h in
      let here : n ≡ n + 0 = omega arith in
      ap (λ d. with_script_lines more n (stages.Image name d, said)) same ∙ ap (λ m. with_script_lines more m (stages.Image name after, said)) here
  rows_pass (line ∷ lines) more n k draft after h = on (with_said draft (full_line_of line)) refl h (λ later. rows_pass lines more (n + 1) (k + 1) later after)
    where
      on : (r : Result Layout LineFault) → with_said draft (full_line_of line) ≡ r → and_rows r k (λ later. with_lines lines (k + 1) later) ≡ Ok after
          → ((later : Layout) → with_lines lines (k + 1) later ≡ Ok after → with_script_lines (lines ++ more) (n + 1) (stages.Image name later, said) ≡ with_script_lines more ((n + 1) + length lines) (stages.Image name after, said))
          → and_then (with_full_line n (stages.Image name draft, said) (without_feed line)) n (λ later. with_script_lines (lines ++ more) (n + 1) later)
          ≡ with_script_lines more (n + suc (length lines)) (stages.Image name after, said)
      on (Err fault) e h again = cc h
      on (Ok later) e h again =
          let there : (n + 1) + length lines ≡ n + suc (length lines) = omega arith in
          ap (λ found. and_then found n (λ later. with_script_lines (lines ++ more) (n + 1) later)) (row_passes n draft later (without_feed line) e)
          ∙ again later h
          ∙ ap (λ m. with_script_lines more m (stages.Image name after, said)) there

  first_passes : (n : ℕ) (draft : Layout) (o : Option (List ℕ)) → with_head (said_by o) ≡ Ok draft → with_full_line n (stages.Opening name, said) o ≡ Ok (stages.Image name draft, said)
  unfolding with_head with_script_line
  first_passes n draft None h = cc h
  first_passes n draft (Some text) h = ap (in_image name said) h

  -- the lines of a layout's text make a draft of it
  pub draft_passes : (lines more : List (List ℕ)) (n : ℕ) (draft : Layout) → draft_of lines ≡ Ok draft
      → with_script_lines (lines ++ more) n (stages.Opening name, said) ≡ with_script_lines more (n + length lines) (stages.Image name draft, said)
  unfolding draft_of with_script_lines full_line_of
  draft_passes [] more n draft h = cc h
  draft_passes (line ∷ lines) more n draft h = on (with_head (full_line_of line)) refl h
    where
      on : (r : Result Layout LineFault) → with_head (full_line_of line) ≡ r → and_rows r 1 (λ later. with_lines lines 2 later) ≡ Ok draft
          → and_then (with_full_line n (stages.Opening name, said) (without_feed line)) n (λ later. with_script_lines (lines ++ more) (n + 1) later)
          ≡ with_script_lines more (n + suc (length lines)) (stages.Image name draft, said)
      on (Err fault) e h = cc h
      on (Ok later) e h =
          let there : (n + 1) + length lines ≡ n + suc (length lines) = omega arith in
          ap (λ found. and_then found n (λ later. with_script_lines (lines ++ more) (n + 1) later)) (first_passes n later (without_feed line) e)
          ∙ rows_pass lines more (n + 1) 2 later draft h
          ∙ ap (λ m. with_script_lines more m (stages.Image name draft, said)) there
