-- That rules are read as they are written and no others are, what a watch told after many pushes, and what a row may lack.
use Rattle.std.specs.Prelude.{◌≡◌, ◌≢◌, ℕ, List, [], ◌∷◌, ◌++◌, codes, Some, Result, Ok, Err, IfOk, OnErr}
use Rattle.std.specs.List.{filter}
use Rattle.pcp_base.specs.declared.memory.NoMemory.{NoMemory}
use Rattle.rule_watch.specs.declared.rule.Rule.{Rule}
use Rattle.rule_watch.specs.Holding.{Tells}
use Rattle.rule_watch.specs.Lines.{rule_of}
use Rattle.rule_watch.specs.Rows.{Row}
use Rattle.rule_watch.specs.Reading as reading
use Rattle.rule_watch.specs.Rules.{AreRules, IsWritten, is_watched}
use Rattle.rule_watch.specs.Shown.{Answers, KeptRule, Shows, rules_of}
use Rattle.rule_watch.specs.Spelling.{rule_text, rules_text}

-- what is written of a rule is read as that rule
abbrev pub RulesAreRead : Type 0
RulesAreRead = (rule : Rule) → IsWritten rule → rule_of (rule_text rule) ≡ Some rule

-- and what is written of all rules of a text is read as these rules
abbrev pub TextsAreRead : Type 0
TextsAreRead = (rules : List Rule) → AreRules rules → reading.rules_of (rules_text rules) ≡ Ok rules

-- what is read of a line may be written
abbrev pub OnlyRulesAreRead : Type 0
OnlyRulesAreRead = (line : List ℕ) (rule : Rule) → rule_of line ≡ Some rule → IsWritten rule

-- `-0` stands nowhere in a line
abbrev pub HasNoMinusZero : List ℕ → Type 0
HasNoMinusZero line = (before behind : List ℕ) → line ≢ before ++ (codes "-0" ++ behind)

-- and the line is what is written of the rule, unless it has a 0 as `-0`
abbrev pub SpellingIsOne : Type 0
SpellingIsOne = (line : List ℕ) (rule : Rule) → HasNoMinusZero line → rule_of line ≡ Some rule → line ≡ rule_text rule

-- a row that was handed over, and what was answered
abbrev pub Push : Type 0
Push = Row × Result (List ℕ) NoMemory

-- What a push promises of what is kept before it and behind it.
pub record IsPush (old : List KeptRule) (push : Push) (new : List KeptRule) : Type 0 where
  pub ok : IfOk push.1 (λ numbers. Answers old push.0 new numbers)
  pub rules : rules_of new ≡ rules_of old
  pub err : OnErr push.1 ((rows : List Row) → Shows old rows → Shows new rows)

-- pushes one behind another
abbrev pub ArePushes : List KeptRule → List Push → List KeptRule → Type 0
ArePushes first [] last = first ≡ last
ArePushes first (push ∷ pushes) last = (next : List KeptRule) × IsPush first push next × ArePushes next pushes last

-- the rows that were taken, for which memory wasn't refused
abbrev pub taken : List Push → List Row
taken [] = []
taken ((row, Ok numbers) ∷ pushes) = row ∷ taken pushes
taken ((row, Err refused) ∷ pushes) = taken pushes

-- Of a watch that began without a row, each answer is the numbers of the rules that hold at its row, over this row and
-- those that were taken before it.
abbrev pub PushesTell : Type 0
PushesTell = (rules : List Rule) (first last : List KeptRule) (before behind : List Push) (row : Row) (numbers : List ℕ) →
    rules_of first ≡ rules → Shows first [] → ArePushes first (before ++ (row, Ok numbers) ∷ behind) last →
    Tells rules (taken before ++ row ∷ []) numbers

-- a row without the values of names that no rule speaks of
abbrev pub watched_row : List Rule → Row → Row
watched_row rules row = filter (λ entry. is_watched rules entry.0) row

-- Of a watch that keeps its rules: what is answered to such a row is an answer to the whole row.
abbrev pub RowsMayLackOthers : Type 0
RowsMayLackOthers = (old new : List KeptRule) (row : Row) (numbers : List ℕ) → rules_of new ≡ rules_of old → Answers old (watched_row (rules_of old) row) new numbers → Answers old row new numbers
