-- What each line of a text of rules makes of the rules before it.
use Rattle.std.proofs.Common.{◌≡◌, ℕ, nat_eq, ltb, Bool, true, false, cond, ◌+◌, ◌<◌, List, [], ◌∷◌, ◌++◌, length, length-append, refl, sym, ap, ◌∙◌, arith, Option, Some, None, Result, Ok, Err}
use Rattle.text_lines.specs.Lines.{lines_of, IsUnended, IsSplit}
use Rattle.rule_watch.specs.declared.rule.Rule.{Rule}
use Rattle.rule_watch.specs.declared.fault.RuleFault.{RuleFault}
use Rattle.rule_watch.specs.declared.fault.RuleLineFault.{RuleLineFault}
use Rattle.rule_watch.specs.declared.fault.RuleLineFault.TheVariants.{Grammar, Condition, Many}
use Rattle.rule_watch.specs.declared.fault.LineStop.{LineStop}
use Rattle.rule_watch.specs.declared.fault.LineStop.TheVariants as stops
use Rattle.rule_watch.specs.Faults.{on_line}
use Rattle.rule_watch.specs.Lines.{rule_of}
use Rattle.rule_watch.specs.Rules.{has_label}
use Rattle.rule_watch.specs.Reading.{rules_of, with_rule, with_full_line, and_then, with_lines, Answers, Goes}

-- no line is left
no_lines : (bytes : List ℕ) → length bytes ≡ 0 → lines_of bytes ≡ []
unfolding lines_of
no_lines [] h = refl
no_lines (b ∷ bs) h = absurd (omega arith)

pub some_bytes : (bytes : List ℕ) → nat_eq (length bytes) 0 ≡ false → 0 < length bytes
some_bytes [] h = cc
some_bytes (b ∷ bs) h = omega arith

-- before the first line
pub starts : (text : List ℕ) → rules_of text ≡ with_lines (lines_of text) 1 []
unfolding rules_of
starts text = refl

pick_more : (b c : Bool) (rules later : List Rule) (rule : Rule) → cond b (Err Condition) (cond c (Ok (rules ++ rule ∷ [])) (Err Many)) ≡ Ok later → length later ≡ length rules + 1
pick_more true c rules later rule e = cc
pick_more false false rules later rule e = cc
pick_more false true rules later rule e = let same : rules ++ rule ∷ [] ≡ later = cc in ap length (sym same) ∙ length-append rules (rule ∷ [])

-- A line that is taken brings one rule.
pub one_more : (rules later : List Rule) (o : Option Rule) → with_rule rules o ≡ Ok later → length later ≡ length rules + 1
one_more rules later None e = cc
one_more rules later (Some rule) e = pick_more (has_label rules rule.label) (ltb (length rules) 64) rules later rule e

module _ (bytes : List ℕ) (number : ℕ) (rules : List Rule) where
  pub lines_end : length bytes ≡ 0 → with_lines (lines_of bytes) number rules ≡ Ok rules
  unfolding with_lines
  lines_end h = ap (λ lines. with_lines lines number rules) (no_lines bytes h)

  -- a last line without its line feed
  pub unended_fault : IsUnended bytes → 0 < length bytes → with_lines (lines_of bytes) number rules ≡ Err (record { line = number; fault = Grammar })
  unfolding with_lines
  unended_fault u some =
      ap (λ lines. with_lines lines number rules) (u.lines some)
      ∙ ap (λ text. and_then (with_full_line rules text) number (λ later. with_lines [] (number + 1) later)) (u.first some)

  module _ (line rest : List ℕ) (s : IsSplit bytes line rest) where
    first_line : with_lines (lines_of bytes) number rules ≡ and_then (with_rule rules (rule_of line)) number (λ later. with_lines (lines_of rest) (number + 1) later)
    unfolding with_lines
    first_line =
        ap (λ lines. with_lines lines number rules) s.lines
        ∙ ap (λ text. and_then (with_full_line rules text) number (λ later. with_lines (lines_of rest) (number + 1) later)) s.first

    -- a line that is taken
    pub line_goes_on : (later : List Rule) → with_rule rules (rule_of line) ≡ Ok later → with_lines (lines_of bytes) number rules ≡ with_lines (lines_of rest) (number + 1) later
    line_goes_on later h = first_line ∙ ap (λ found. and_then found number (λ d. with_lines (lines_of rest) (number + 1) d)) h

    -- a line that is refused
    line_fault : (fault : RuleLineFault) → with_rule rules (rule_of line) ≡ Err fault → with_lines (lines_of bytes) number rules ≡ Err (record { line = number; fault = fault })
    line_fault fault h = first_line ∙ ap (λ found. and_then found number (λ d. with_lines (lines_of rest) (number + 1) d)) h

    -- lines up to the first that is refused
    pub refused : (whole : Result (List Rule) RuleFault) (after : List Rule) (stop : LineStop) → whole ≡ with_lines (lines_of bytes) number rules
        → Goes (with_rule rules (rule_of line)) after (Err stop) → Answers whole (Err (on_line stop number))
    refused whole after (stops.Fault fault) same h = same ∙ line_fault fault h
    refused whole after stops.NoMemory same h = tt
