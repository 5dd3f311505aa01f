-- What each line of a text makes of the draft of the lines before it.
use Rattle.std.proofs.Common.{◌≡◌, ℕ, nat_eq, false, ◌+◌, ◌<◌, List, [], ◌∷◌, length, refl, ap, ◌∙◌, arith, Ok, Err}
use Rattle.mmv_layout.specs.declared.rows.Layout.{Layout}
use Rattle.text_lines.specs.LayoutLines.{line_of}
use Rattle.mmv_writer.specs.declared.line_fault.LineFault.{LineFault}
use Rattle.mmv_writer.specs.declared.line_fault.LineFault.TheVariants.{Grammar}
use Rattle.mmv_writer.specs.declared.line_fault.TextFault.{TextFault}
use Rattle.mmv_writer.specs.declared.line_fault.LineError.{LineError}
use Rattle.mmv_writer.specs.declared.line_fault.LineError.TheVariants as stops
use Rattle.text_lines.specs.Lines.{lines_of, IsUnended, IsSplit}
use Rattle.mmv_writer.specs.Reading.{said_by, full_line_of, with_said, with_head, and_then, with_lines, draft_of, text_draft, image_of, text_image, on_line, Takes, Adds}

-- no line is left
pub no_lines : (bytes : List ℕ) → length bytes ≡ 0 → lines_of bytes ≡ []
unfolding lines_of
no_lines [] h = refl
no_lines (b ∷ bs) h = absurd (omega arith)

pub some_bytes : (bytes : List ℕ) → nat_eq (length bytes) 0 ≡ false → 0 < length bytes
some_bytes [] h = cc
some_bytes (b ∷ bs) h = omega arith

module _ (bytes : List ℕ) (number : ℕ) (draft : Layout) where
  pub lines_end : length bytes ≡ 0 → with_lines (lines_of bytes) number draft ≡ Ok draft
  unfolding with_lines
  lines_end h = ap (λ lines. with_lines lines number draft) (no_lines bytes h)

  -- a last line without its line feed
  pub unended_fault : IsUnended bytes → 0 < length bytes → with_lines (lines_of bytes) number draft ≡ Err (record { line = number; fault = Grammar })
  unfolding with_lines with_said full_line_of
  unended_fault u p =
      ap (λ lines. with_lines lines number draft) (u.lines p)
      ∙ ap (λ text. and_then (with_said draft (said_by text)) number (λ later. with_lines [] (number + 1) later)) (u.first p)

  module _ (line rest : List ℕ) (s : IsSplit bytes line rest) where
    first_line : with_lines (lines_of bytes) number draft ≡ and_then (with_said draft (line_of line)) number (λ later. with_lines (lines_of rest) (number + 1) later)
    unfolding with_lines full_line_of
    first_line =
        ap (λ lines. with_lines lines number draft) s.lines
        ∙ ap (λ text. and_then (with_said draft (said_by text)) number (λ later. with_lines (lines_of rest) (number + 1) later)) s.first

    -- a line that is taken
    pub line_goes_on : (later : Layout) → with_said draft (line_of line) ≡ Ok later → with_lines (lines_of bytes) number draft ≡ with_lines (lines_of rest) (number + 1) later
    line_goes_on later h = first_line ∙ ap (λ found. and_then found number (λ d. with_lines (lines_of rest) (number + 1) d)) h

    -- a line that is refused
    pub line_fault : (fault : LineFault) → with_said draft (line_of line) ≡ Err fault → with_lines (lines_of bytes) number draft ≡ Err (record { line = number; fault = fault })
    line_fault fault h = first_line ∙ ap (λ found. and_then found number (λ d. with_lines (lines_of rest) (number + 1) d)) h

-- lines up to the first that is refused
pub refused : (whole : List (List ℕ)) (before draft after : Layout) (bytes line rest : List ℕ) (number : ℕ) (error : LineError) → with_lines whole 2 before ≡ with_lines (lines_of bytes) number draft → IsSplit bytes line rest → Takes {X = Unit {0}} (with_said draft (line_of line)) draft after (Err error) → Adds whole 2 before after (Err (on_line error number))
refused whole before draft after bytes line rest number (stops.Fault fault) same s h = same ∙ line_fault bytes number draft line rest s fault h.0
refused whole before draft after bytes line rest number stops.NoMemory same s h = tt

-- The first line

pub unended_text : (bytes : List ℕ) → IsUnended bytes → text_draft bytes ≡ Err (record { line = 1; fault = Grammar })
unfolding text_draft draft_of lines_of with_head full_line_of
unended_text [] u = refl
unended_text (b ∷ bs) u =
    let p : 0 < length (b ∷ bs) = omega arith in
    ap draft_of (u.lines p) ∙ ap (λ text. and_then (with_head (said_by text)) 1 (λ draft. with_lines [] 2 draft)) (u.first p)

-- a text's first fault
pub text_fault_told : (bytes : List ℕ) (fault : TextFault) → text_draft bytes ≡ Err fault → text_image bytes ≡ Err fault
unfolding text_image
text_fault_told bytes fault h = ap (λ d. image_of d (length (lines_of bytes) + 1)) h
