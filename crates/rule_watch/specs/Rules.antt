-- Rules, and what holds of those that are written and read.
use Rattle.std.specs.Prelude.{◌≡◌, ◌≢◌, ℕ, ◌≤◌, Bool, List, length, bytes_eq}
use Rattle.std.specs.List.{AllByRecursion, AllPairs, list_any}
use Rattle.pcp_base.specs.Names.{IsComponent, IsName}
use Rattle.text_lines.specs.Laws.{IsWhole}
use Rattle.rule_watch.specs.declared.rule.Joint.TheVariants as joints
use Rattle.rule_watch.specs.declared.rule.Condition.{Condition}
use Rattle.rule_watch.specs.declared.rule.Rule.{Rule}

-- a window has 1 to 1,000 values
abbrev pub IsCondition : Condition → Type 0
IsCondition c = (1 ≤ c.size) × (c.size ≤ 1000)

-- a condition that may be written: on a metric's name, with such a size, and with a number of at most 20 digits
pub record IsWrittenCondition (c : Condition) : Type 0 where
  pub name : IsName c.name
  pub size : IsCondition c
  pub number : IsWhole c.number

abbrev pub AreConditions : List Condition → Type 0
AreConditions conditions = AllByRecursion IsWrittenCondition conditions

-- A rule that may be written: its label is one component of at most 63 bytes, and it has one to eight conditions; one
-- alone is joined by `And`.
pub record IsWritten (rule : Rule) : Type 0 where
  pub label : IsComponent rule.label
  pub short : length rule.label ≤ 63
  pub some : 1 ≤ length rule.conditions
  pub few : length rule.conditions ≤ 8
  pub each : AreConditions rule.conditions
  pub alone : length rule.conditions ≡ 1 → rule.joint ≡ joints.And

-- at most 64 rules, with labels that differ
pub record AreRules (rules : List Rule) : Type 0 where
  pub few : length rules ≤ 64
  pub each : AllByRecursion IsWritten rules
  pub differ : AllPairs (λ a b. a.label ≢ b.label) rules

-- a rule has the label
abbrev pub has_label : List Rule → List ℕ → Bool
has_label rules label = list_any (λ rule. bytes_eq rule.label label) rules

-- some condition of some rule is on the metric of this name
abbrev pub is_watched : List Rule → List ℕ → Bool
is_watched rules name = list_any (λ rule. list_any (λ c. bytes_eq name c.name) rule.conditions) rules
