-- Pushes one behind another.
use Rattle.std.proofs.Common.{◌≡◌, ℕ, List, [], ◌∷◌, ◌++◌, append_assoc, subst, ◌∙◌, Ok, Err}
use Rattle.rule_watch.specs.declared.rule.Rule.{Rule}
use Rattle.rule_watch.specs.Holding.{Tells}
use Rattle.rule_watch.specs.Laws.{ArePushes, Push, PushesTell, taken}
use Rattle.rule_watch.specs.Rows.{Row}
use Rattle.rule_watch.specs.Shown.{KeptRule, Shows, rules_of}

-- Behind rows that are shown.
tell_behind : (rules : List Rule) (rows : List Row) (first last : List KeptRule) (before behind : List Push) (row : Row) (numbers : List ℕ) → rules_of first ≡ rules → Shows first rows
    → ArePushes first (before ++ (row, Ok numbers) ∷ behind) last → Tells rules (rows ++ (taken before ++ row ∷ [])) numbers
tell_behind rules rows first last [] behind row numbers same shows (next, is, more) =
    subst (λ (rs : List Rule). Tells rs (rows ++ row ∷ []) numbers) same (is.ok rows shows).1
tell_behind rules rows first last ((earlier, Ok ns) ∷ before) behind row numbers same shows (next, is, more) =
    subst (λ (rs : List Row). Tells rules rs numbers) (append_assoc rows (earlier ∷ []) (taken before ++ row ∷ []))
    (tell_behind rules (rows ++ earlier ∷ []) next last before behind row numbers (is.rules ∙ same) (is.ok rows shows).0 more)
tell_behind rules rows first last ((earlier, Err e) ∷ before) behind row numbers same shows (next, is, more) =
    tell_behind rules rows next last before behind row numbers (is.rules ∙ same) (is.err rows shows) more

pub pushes_tell : PushesTell
pushes_tell rules first last before behind row numbers same shows are = tell_behind rules [] first last before behind row numbers same shows are
