-- How a rule is written: its words and parts behind one space each.
use Rattle.std.specs.Prelude.{ℕ, List, [], ◌∷◌, ◌++◌, codes}
use Rattle.text_lines.specs.Spelling.{number_part, int_part}
use Rattle.rule_watch.specs.declared.aggregate.Aggregate.{Aggregate}
use Rattle.rule_watch.specs.declared.aggregate.Aggregate.TheVariants as aggregates
use Rattle.rule_watch.specs.declared.rule.Quantifier.{Quantifier}
use Rattle.rule_watch.specs.declared.rule.Quantifier.TheVariants as quantifiers
use Rattle.rule_watch.specs.declared.rule.Comparison.{Comparison}
use Rattle.rule_watch.specs.declared.rule.Comparison.TheVariants as comparisons
use Rattle.rule_watch.specs.declared.rule.Joint.{Joint}
use Rattle.rule_watch.specs.declared.rule.Joint.TheVariants as joints
use Rattle.rule_watch.specs.declared.rule.Condition.{Condition}
use Rattle.rule_watch.specs.declared.rule.Rule.{Rule}

abbrev pub quantifier_part : Quantifier → List ℕ
quantifier_part quantifiers.Any = codes " some"
quantifier_part quantifiers.All = codes " all"

abbrev pub aggregate_part : Aggregate → List ℕ
aggregate_part aggregates.Min = codes " min"
aggregate_part aggregates.Max = codes " max"
aggregate_part aggregates.Sum = codes " sum"
aggregate_part aggregates.Rise = codes " rise"

abbrev pub comparison_part : Comparison → List ℕ
comparison_part comparisons.Below = codes " <"
comparison_part comparisons.AtMost = codes " <="
comparison_part comparisons.Above = codes " >"
comparison_part comparisons.AtLeast = codes " >="
comparison_part comparisons.Equal = codes " =="
comparison_part comparisons.Unequal = codes " !="

unfoldable pub condition_text : Condition → List ℕ
condition_text c =
    quantifier_part c.quantifier ++ (aggregate_part c.aggregate ++ (32 ∷ (c.name ++ (codes " over" ++ (number_part c.size ++ (comparison_part c.comparison ++ int_part c.number))))))

abbrev pub joint_part : Joint → List ℕ
joint_part joints.And = codes " and"
joint_part joints.Or = codes " or"

-- conditions, each behind the word that joins it
unfoldable pub joined_text : Joint → List Condition → List ℕ
joined_text joint [] = []
joined_text joint (c ∷ cs) = joint_part joint ++ (condition_text c ++ joined_text joint cs)

-- conditions, of which no word joins the first
abbrev pub conditions_text : Joint → List Condition → List ℕ
conditions_text joint [] = []
conditions_text joint (c ∷ cs) = condition_text c ++ joined_text joint cs

-- a rule, without a line feed
unfoldable pub rule_text : Rule → List ℕ
rule_text rule = codes "rule" ++ (32 ∷ (rule.label ++ (codes " when" ++ conditions_text rule.joint rule.conditions)))

-- rules, each with its line feed
unfoldable pub rules_text : List Rule → List ℕ
rules_text [] = []
rules_text (rule ∷ rules) = rule_text rule ++ 10 ∷ rules_text rules
