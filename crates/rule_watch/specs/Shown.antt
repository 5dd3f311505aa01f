-- What a watch keeps, as its callers see it: for each rule its conditions, and for each condition the last values of the
-- metric's instances. A watch shows rows where these are the values that the rows have.
use Rattle.std.specs.Prelude.{◌≡◌, ℕ, ℤ, ◌++◌, List, [], ◌∷◌, map, Option, Some, None}
use Rattle.std.specs.List.{AllByRecursion}
use Rattle.std.specs.Ordering.{int_eq}
use Rattle.std.specs.Map.{lookup}
use Rattle.rule_watch.specs.declared.rule.Joint.{Joint}
use Rattle.rule_watch.specs.declared.rule.Condition.{Condition}
use Rattle.rule_watch.specs.declared.rule.Rule.{Rule}
use Rattle.rule_watch.specs.Holding.{Tells}
use Rattle.rule_watch.specs.Rows.{Row, window}
use Rattle.rule_watch.specs.Windows.{Recent}

pub record KeptRule : Type 0 where
  pub label : List ℕ
  pub joint : Joint
  pub conditions : List (Condition × List (ℤ × Recent))

abbrev pub values_kept : Option Recent → List ℤ
values_kept None = []
values_kept (Some recent) = recent.values

-- the values that are kept of an instance
abbrev pub kept_of : List (ℤ × Recent) → ℤ → List ℤ
kept_of windows instance = values_kept (lookup (int_eq instance) windows)

abbrev pub rule_kept : KeptRule → Rule
rule_kept rule = record { label = rule.label; joint = rule.joint; conditions = map (λ c. c.0) rule.conditions }

-- the rules of a watch
abbrev pub rules_of : List KeptRule → List Rule
rules_of watch = map rule_kept watch

abbrev pub IsShown : List Row → KeptRule → Type 0
IsShown rows rule = AllByRecursion (λ c. (instance : ℤ) → kept_of c.1 instance ≡ window rows c.0 instance) rule.conditions

-- what is kept is what these rows say
abbrev pub Shows : List KeptRule → List Row → Type 0
Shows watch rows = AllByRecursion (IsShown rows) watch

-- where some rows are shown, these and one more are, and the numbers are those of the rules that hold at it
abbrev pub Answers : List KeptRule → Row → List KeptRule → List ℕ → Type 0
Answers old row new numbers = (rows : List Row) → Shows old rows → Shows new (rows ++ row ∷ []) × Tells (rules_of old) (rows ++ row ∷ []) numbers
