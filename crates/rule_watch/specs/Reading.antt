-- What a whole text of rules says: its lines one after another, or the first fault in their order. A line's number counts from 1.
use Rattle.std.specs.Prelude.{◌≡◌, ℕ, ◌+◌, nat_lt, if◌then◌else◌, List, [], ◌∷◌, ◌++◌, length, Option, Some, None, Result, Ok, Err}
use Rattle.text_lines.specs.Lines.{lines_of, without_feed}
use Rattle.rule_watch.specs.declared.rule.Rule.{Rule}
use Rattle.rule_watch.specs.declared.fault.RuleLineFault.{RuleLineFault}
use Rattle.rule_watch.specs.declared.fault.RuleLineFault.TheVariants.{Grammar, Condition, Many}
use Rattle.rule_watch.specs.declared.fault.RuleFault.{RuleFault}
use Rattle.rule_watch.specs.declared.fault.ReadRulesError.{ReadRulesError}
use Rattle.rule_watch.specs.declared.fault.ReadRulesError.TheVariants as ends
use Rattle.rule_watch.specs.declared.fault.LineStop.{LineStop}
use Rattle.rule_watch.specs.declared.fault.LineStop.TheVariants as stops
use Rattle.rule_watch.specs.Lines.{rule_of}
use Rattle.rule_watch.specs.Rules.{has_label}

-- one more rule, if its label is new and there are fewer than 64
abbrev pub with_rule : List Rule → Option Rule → Result (List Rule) RuleLineFault
with_rule rules None = Err Grammar
with_rule rules (Some rule) =
    if has_label rules rule.label then Err Condition else
    if nat_lt (length rules) 64 then Ok (rules ++ rule ∷ []) else Err Many

-- a line without its line feed is none
abbrev pub with_full_line : List Rule → Option (List ℕ) → Result (List Rule) RuleLineFault
with_full_line rules None = Err Grammar
with_full_line rules (Some line) = with_rule rules (rule_of line)

abbrev pub and_then : Result (List Rule) RuleLineFault → ℕ → (List Rule → Result (List Rule) RuleFault) → Result (List Rule) RuleFault
and_then (Ok rules) number next = next rules
and_then (Err fault) number next = Err (record { line = number; fault = fault })

-- lines, of which the first has this number
unfoldable pub with_lines : List (List ℕ) → ℕ → List Rule → Result (List Rule) RuleFault
with_lines [] number rules = Ok rules
with_lines (line ∷ lines) number rules =
    and_then (with_full_line rules (without_feed line)) number (λ later. with_lines lines (number + 1) later)

-- the rules of a text
unfoldable pub rules_of : List ℕ → Result (List Rule) RuleFault
rules_of text = with_lines (lines_of text) 1 []

-- a line makes these rules of those before it, or has this fault, unless memory ran out
abbrev pub Goes : Result (List Rule) RuleLineFault → List Rule → Result (Unit {0}) LineStop → Type 0
Goes found after (Ok done) = found ≡ Ok after
Goes found after (Err (stops.Fault fault)) = found ≡ Err fault
Goes found after (Err stops.NoMemory) = Unit {0}

-- what was answered is what the text says, unless memory ran out
abbrev pub Answers : Result (List Rule) RuleFault → Result (List Rule) ReadRulesError → Type 0
Answers found (Ok rules) = found ≡ Ok rules
Answers found (Err (ends.Fault fault)) = found ≡ Err fault
Answers found (Err ends.NoMemory) = Unit {0}
