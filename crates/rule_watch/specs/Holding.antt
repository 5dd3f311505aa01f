-- When a rule holds at a row, which is the last of the rows so far.
use Rattle.std.specs.Prelude.{◌≡◌, ℕ, ℤ, ◌+◌, ◌-◌, ◌↔◌, Bool, true, not, ◌&&◌, ◌==◌, nat_lt, int_lt, int_le, List, length, take, Some, slice_get}
use Rattle.std.specs.List.{list_any, list_all, Contains}
use Rattle.std.specs.List.Sorted.{IsStrictlyIncreasing}
use Rattle.std.specs.Ordering.{int_eq}
use Rattle.rule_watch.specs.declared.rule.Quantifier.{Quantifier}
use Rattle.rule_watch.specs.declared.rule.Quantifier.TheVariants as quantifiers
use Rattle.rule_watch.specs.declared.rule.Comparison.{Comparison}
use Rattle.rule_watch.specs.declared.rule.Comparison.TheVariants as comparisons
use Rattle.rule_watch.specs.declared.rule.Joint.{Joint}
use Rattle.rule_watch.specs.declared.rule.Joint.TheVariants as joints
use Rattle.rule_watch.specs.declared.rule.Condition.{Condition}
use Rattle.rule_watch.specs.declared.rule.Rule.{Rule}
use Rattle.rule_watch.specs.Aggregates.{aggregate_of}
use Rattle.rule_watch.specs.Rows.{Row, instances_in, window}

abbrev pub compares : Comparison → ℤ → ℤ → Bool
compares comparisons.Below x n = int_lt x n
compares comparisons.AtMost x n = int_le x n
compares comparisons.Above x n = int_lt n x
compares comparisons.AtLeast x n = int_le n x
compares comparisons.Equal x n = int_eq x n
compares comparisons.Unequal x n = not (int_eq x n)

-- a window has as many values as the condition asks for, and what is told of them compares so
abbrev pub passes : Condition → List ℤ → Bool
passes c values = (length values == c.size) && compares c.comparison (aggregate_of c.aggregate values) c.number

-- some instances, or all of at least one
abbrev pub quantified : Quantifier → (ℤ → Bool) → List ℤ → Bool
quantified quantifiers.Any test instances = list_any test instances
quantified quantifiers.All test instances = nat_lt 0 (length instances) && list_all test instances

-- a condition holds at a row, for the windows by instance
abbrev pub condition_holds : (ℤ → List ℤ) → Row → Condition → Bool
condition_holds windows row c = quantified c.quantifier (λ instance. passes c (windows instance)) (instances_in c.name row)

abbrev pub joined : {X : Type 0} → Joint → (X → Bool) → List X → Bool
joined joints.And test conditions = list_all test conditions
joined joints.Or test conditions = list_any test conditions

-- a rule holds at a row that is the last of these rows
abbrev pub rule_holds : List Row → Row → Rule → Bool
rule_holds rows row rule = joined rule.joint (λ c. condition_holds (window rows c) row c) rule.conditions

-- the rule of this number, from 0, holds at row k
pub record Holds (rules : List Rule) (rows : List Row) (k n : ℕ) : Type 0 where
  pub row : Row
  pub rule : Rule
  pub there : slice_get rows k ≡ Some row
  pub numbered : slice_get rules n ≡ Some rule
  pub holds : rule_holds (take (k + 1) rows) row rule ≡ true

-- the numbers, ascending, are those of the rules that hold at the last row
pub record Tells (rules : List Rule) (rows : List Row) (numbers : List ℕ) : Type 0 where
  pub ascending : IsStrictlyIncreasing numbers
  pub exactly : (n : ℕ) → Contains numbers n ↔ Holds rules rows (length rows - 1) n
