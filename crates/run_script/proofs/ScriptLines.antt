-- What each line of a script makes of the lines before it.
use Rattle.std.proofs.Common.{◌≡◌, ℕ, nat_eq, false, ◌+◌, ◌<◌, List, [], ◌∷◌, length, refl, ap, ◌∙◌, arith, Ok, Err}
use Rattle.mmv_writer.specs.declared.line_fault.LineFault.TheVariants.{Grammar}
use Rattle.text_lines.specs.Lines.{lines_of, IsUnended, IsSplit}
use Rattle.run_script.specs.declared.fault.ScriptLineFault.{ScriptLineFault}
use Rattle.run_script.specs.declared.fault.ScriptLineFault.TheVariants.{Line}
use Rattle.run_script.specs.declared.fault.LineStop.{LineStop}
use Rattle.run_script.specs.declared.fault.LineStop.TheVariants as stops
use Rattle.run_script.specs.declared.said.Said.{Said}
use Rattle.run_script.specs.declared.said.Stage.TheVariants as stages
use Rattle.run_script.specs.Said.{nothing}
use Rattle.run_script.specs.Faults.{on_line}
use Rattle.run_script.specs.Reading.{Point, with_script_line, with_full_line, and_then, with_script_lines, Goes, Leads}

-- no line is left
pub no_lines : (bytes : List ℕ) → length bytes ≡ 0 → lines_of bytes ≡ []
unfolding lines_of
no_lines [] h = refl
no_lines (b ∷ bs) h = absurd (omega arith)

pub some_bytes : (bytes : List ℕ) → nat_eq (length bytes) 0 ≡ false → 0 < length bytes
some_bytes [] h = cc
some_bytes (b ∷ bs) h = omega arith

module _ (bytes : List ℕ) (number : ℕ) (p : Point) where
  pub lines_end : length bytes ≡ 0 → with_script_lines (lines_of bytes) number p ≡ Ok p
  unfolding with_script_lines
  lines_end h = ap (λ lines. with_script_lines lines number p) (no_lines bytes h)

  -- a last line without its line feed
  pub unended_fault : IsUnended bytes → 0 < length bytes → with_script_lines (lines_of bytes) number p ≡ Err (record { line = number; fault = Line Grammar })
  unfolding with_script_lines
  unended_fault u some =
      ap (λ lines. with_script_lines lines number p) (u.lines some)
      ∙ ap (λ text. and_then (with_full_line number p text) number (λ later. with_script_lines [] (number + 1) later)) (u.first some)

  module _ (line rest : List ℕ) (s : IsSplit bytes line rest) where
    first_line : with_script_lines (lines_of bytes) number p ≡ and_then (with_script_line number p line) number (λ later. with_script_lines (lines_of rest) (number + 1) later)
    unfolding with_script_lines
    first_line =
        ap (λ lines. with_script_lines lines number p) s.lines
        ∙ ap (λ text. and_then (with_full_line number p text) number (λ later. with_script_lines (lines_of rest) (number + 1) later)) s.first

    -- a line that is taken
    pub line_goes_on : (later : Point) → with_script_line number p line ≡ Ok later → with_script_lines (lines_of bytes) number p ≡ with_script_lines (lines_of rest) (number + 1) later
    line_goes_on later h = first_line ∙ ap (λ found. and_then found number (λ d. with_script_lines (lines_of rest) (number + 1) d)) h

    -- a line that is refused
    pub line_fault : (fault : ScriptLineFault) → with_script_line number p line ≡ Err fault → with_script_lines (lines_of bytes) number p ≡ Err (record { line = number; fault = fault })
    line_fault fault h = first_line ∙ ap (λ found. and_then found number (λ d. with_script_lines (lines_of rest) (number + 1) d)) h

-- lines up to the first that is refused
pub refused : (whole : List (List ℕ)) (p : Point) (after : Said) (bytes line rest : List ℕ) (number : ℕ) (stop : LineStop)
    → with_script_lines whole 1 (stages.Head, nothing) ≡ with_script_lines (lines_of bytes) number p → IsSplit bytes line rest
    → Goes (with_script_line number p line) after (Err stop) → Leads whole after (Err (on_line stop number))
refused whole p after bytes line rest number (stops.Fault fault) same s h = same ∙ line_fault bytes number p line rest s fault h
refused whole p after bytes line rest number stops.NoMemory same s h = tt
