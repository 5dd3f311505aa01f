-- What a watch keeps: for each condition of each rule the windows of the metric's instances.
use Rattle.std.specs.Prelude.{◌≡◌, ℕ, ℤ, ◌+◌, ◌<◌, ◌≤◌, ◌&&◌, nat_lt, if◌then◌else◌, Bool, List, [], ◌∷◌, ◌++◌, length, map, Option, Some, None, IsSome, bytes_eq, position, slice_index_or}
use Rattle.std.specs.List.{All, list_all, list_any}
use Rattle.std.specs.Ordering.{int_cmp}
use Rattle.std.specs.BTreeMap.{BTreeMap, get}
use Rattle.rule_watch.specs.declared.rule.Quantifier.{Quantifier}
use Rattle.rule_watch.specs.declared.rule.Quantifier.TheVariants as quantifiers
use Rattle.rule_watch.specs.declared.rule.Condition.{Condition}
use Rattle.rule_watch.specs.declared.rule.Rule.{Rule}
use Rattle.rule_watch.specs.declared.watched.WatchedCondition.{WatchedCondition}
use Rattle.rule_watch.specs.declared.watched.WatchedRule.{WatchedRule}
use Rattle.rule_watch.specs.Groups.{Group, group_at, numbers_of}
use Rattle.rule_watch.specs.Holding.{condition_holds, joined, passes}
use Rattle.rule_watch.specs.Shown.{KeptRule, values_kept}
use Rattle.rule_watch.specs.Rows.{Row, values_in, window}
use Rattle.rule_watch.specs.Rules.{IsCondition, is_watched}
use Rattle.rule_watch.specs.Windows.{Recent, IsValue, last}

abbrev pub Windows : Type 0
Windows = BTreeMap ℤ Recent

-- the values that are kept of an instance
abbrev pub kept : Windows → ℤ → List ℤ
kept windows instance = values_kept (get int_cmp windows instance)

abbrev pub Serves : Condition → Option Recent → Type 0
Serves c None = Unit {0}
Serves c (Some recent) = (recent.aggregate ≡ c.aggregate) × (recent.size ≡ c.size) × (length recent.values ≤ c.size)

-- each window is of the condition's size, and tells what it asks for
abbrev pub AreOf : Condition → Windows → Type 0
AreOf c windows = (instance : ℤ) → Serves c (get int_cmp windows instance)

-- each instance of a metric's values has a window
abbrev pub HasWindows : Windows → Group → Type 0
HasWindows windows values = All (λ v. IsSome (get int_cmp windows v.0)) values

-- each number of a row is a value
abbrev pub AreValues : Row → Type 0
AreValues row = All (λ entry. IsValue entry.2) row

-- Conditions

abbrev pub IsWatched : WatchedCondition → Type 0
IsWatched w = IsCondition w.condition × AreOf w.condition w.windows

-- the same values are kept
pub record Stays (old new : WatchedCondition) : Type 0 where
  pub condition : new.condition ≡ old.condition
  pub number : new.number ≡ old.number
  pub values : (instance : ℤ) → kept new.windows instance ≡ kept old.windows instance
  pub watched : IsWatched new

-- the values of a row come behind those that were kept
pub record Takes (row : Row) (old new : WatchedCondition) : Type 0 where
  pub condition : new.condition ≡ old.condition
  pub number : new.number ≡ old.number
  pub values : (instance : ℤ) → kept new.windows instance ≡ last old.condition.size (kept old.windows instance ++ values_in old.condition.name instance row)
  pub watched : IsWatched new

-- the values of its metric's group come behind those that were kept
pub record TakesGroup (groups : List Group) (old new : WatchedCondition) : Type 0 where
  pub condition : new.condition ≡ old.condition
  pub number : new.number ≡ old.number
  pub values : (instance : ℤ) → kept new.windows instance ≡ last old.condition.size (kept old.windows instance ++ numbers_of instance (group_at groups old.number))
  pub watched : IsWatched new

-- each instance of its metric's group has a window
pub record IsReady (groups : List Group) (w : WatchedCondition) : Type 0 where
  pub windows : HasWindows w.windows (group_at groups w.number)

-- its metric's name has its number
abbrev pub IsKnown : List (List ℕ) → WatchedCondition → Type 0
IsKnown names w = position (bytes_eq w.condition.name) names ≡ Some w.number

-- a test of instances passes for some of a metric's values, or for all of at least one
abbrev pub quantified_values : Quantifier → (ℤ → Bool) → Group → Bool
quantified_values quantifiers.Any test values = list_any (λ v. test v.0) values
quantified_values quantifiers.All test values = nat_lt 0 (length values) && list_all (λ v. test v.0) values

-- a condition holds for a metric's values, for the windows by instance
abbrev pub group_holds : (ℤ → List ℤ) → Group → Condition → Bool
group_holds windows values c = quantified_values c.quantifier (λ instance. passes c (windows instance)) values

-- a relation between the items of two lists at the same places
abbrev pub EachTo : {X : Type 0} → (X → X → Type 0) → List X → List X → Type 0
EachTo {X} R olds news = (k : ℕ) (d : X) → k < length olds → R (slice_index_or olds k d) (slice_index_or news k d)

-- Rules

abbrev pub IsWatchedRule : WatchedRule → Type 0
IsWatchedRule rule = All IsWatched rule.conditions.items

abbrev pub IsReadyRule : List Group → WatchedRule → Type 0
IsReadyRule groups rule = All (IsReady groups) rule.conditions.items

abbrev pub IsKnownRule : List (List ℕ) → WatchedRule → Type 0
IsKnownRule names rule = All (IsKnown names) rule.conditions.items

pub record Turns (R : WatchedCondition → WatchedCondition → Type 0) (old new : WatchedRule) : Type 0 where
  pub label : new.label ≡ old.label
  pub joint : new.joint ≡ old.joint
  pub count : length new.conditions.items ≡ length old.conditions.items
  pub each : EachTo R old.conditions.items new.conditions.items

abbrev pub rule_of : WatchedRule → Rule
rule_of rule = record { label = rule.label; joint = rule.joint; conditions = map (λ w. w.condition) rule.conditions.items }

-- what is kept for a rule is what these rows say
abbrev pub ShowsRule : List Row → WatchedRule → Type 0
ShowsRule rows rule = All (λ w. (instance : ℤ) → kept w.windows instance ≡ window rows w.condition instance) rule.conditions.items

abbrev pub kept_rule : WatchedRule → KeptRule
kept_rule rule = record { label = rule.label; joint = rule.joint; conditions = map (λ w. (w.condition, w.windows.entries)) rule.conditions.items }

abbrev pub kept_rules : List WatchedRule → List KeptRule
kept_rules rules = map kept_rule rules

-- from a number on, the places at which a test passes
abbrev pub places_from : {X : Type 0} → ℕ → (X → Bool) → List X → List ℕ
places_from n test [] = []
places_from n test (x ∷ xs) = if test x then n ∷ places_from (n + 1) test xs else places_from (n + 1) test xs

-- a rule holds at a row that was taken
abbrev pub watched_holds : Row → WatchedRule → Bool
watched_holds row rule = joined rule.joint (λ w. condition_holds (kept w.windows) row w.condition) rule.conditions.items

-- the same by the groups of a row
abbrev pub groups_hold : List Group → WatchedRule → Bool
groups_hold groups rule = joined rule.joint (λ w. group_holds (kept w.windows) (group_at groups w.number) w.condition) rule.conditions.items

-- the names are those that the rules speak of
abbrev pub AreNames : List (List ℕ) → List Rule → Type 0
AreNames names rules = (name : List ℕ) → list_any (bytes_eq name) names ≡ is_watched rules name

-- at most 64 rules, with the names that they speak of
pub record AreWatched (names : List (List ℕ)) (watch : List WatchedRule) : Type 0 where
  pub few : length watch ≤ 64
  pub each : All IsWatchedRule watch
  pub known : All (IsKnownRule names) watch
  pub named : AreNames names (map rule_of watch)

-- a condition without a window
abbrev pub IsFresh : WatchedCondition → Type 0
IsFresh w = IsCondition w.condition × ((instance : ℤ) → get int_cmp w.windows instance ≡ None)

abbrev pub IsFreshRule : WatchedRule → Type 0
IsFreshRule rule = All IsFresh rule.conditions.items
