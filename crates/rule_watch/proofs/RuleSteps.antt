-- The steps in which a condition and a rule were taken.
use Rattle.std.proofs.Common.{◌≡◌, ℕ, ℤ, List, [], ◌∷◌, codes, Option, Some}
use Rattle.text_lines.specs.Numbers.{◌>>=◌, whole_number}
use Rattle.text_lines.specs.Words.{take_as}
use Rattle.text_lines.proofs.Taking.{both_steps, same_some}
use Rattle.rule_watch.specs.declared.aggregate.Aggregate.{Aggregate}
use Rattle.rule_watch.specs.declared.rule.Quantifier.{Quantifier}
use Rattle.rule_watch.specs.declared.rule.Comparison.{Comparison}
use Rattle.rule_watch.specs.declared.rule.Condition.{Condition}
use Rattle.rule_watch.specs.declared.rule.Rule.{Rule}
use Rattle.rule_watch.specs.Lines.{aggregate_of_word, collect, comparison_of, joint_at, keyword, quantifier_of, rule_line, size_of, take_condition, take_label, take_metric}

-- What is taken, and the bytes behind it.
pub record ConditionSteps (bytes : List ℕ) (c : Condition × List ℕ) : Type 0 where
  pub quantifier : Quantifier × List ℕ
  pub aggregate : Aggregate × List ℕ
  pub name : List ℕ × List ℕ
  pub over : Unit {0} × List ℕ
  pub size : ℕ × List ℕ
  pub comparison : Comparison × List ℕ
  pub number : ℤ × List ℕ
  pub quantifier_is : take_as quantifier_of bytes ≡ Some quantifier
  pub aggregate_is : take_as aggregate_of_word quantifier.1 ≡ Some aggregate
  pub name_is : take_metric aggregate.1 ≡ Some name
  pub over_is : take_as (keyword (codes "over")) name.1 ≡ Some over
  pub size_is : take_as size_of over.1 ≡ Some size
  pub comparison_is : take_as comparison_of size.1 ≡ Some comparison
  pub number_is : take_as whole_number comparison.1 ≡ Some number
  pub is : ◌≡◌ {A = Condition × List ℕ} (record { quantifier = quantifier.0; aggregate = aggregate.0; name = name.0; size = size.0; comparison = comparison.0; number = number.0 }, number.1) c

-- what is done behind each step
abbrev last_step : Quantifier → Aggregate → List ℕ → ℕ → Comparison → ℤ × List ℕ → Option (Condition × List ℕ)
last_step q a name size comparison number =
    Some (record { quantifier = q; aggregate = a; name = name; size = size; comparison = comparison; number = number.0 }, number.1)

abbrev behind_comparison : Quantifier → Aggregate → List ℕ → ℕ → Comparison × List ℕ → Option (Condition × List ℕ)
behind_comparison q a name size comparison = take_as whole_number comparison.1 >>= last_step q a name size comparison.0

abbrev behind_size : Quantifier → Aggregate → List ℕ → ℕ × List ℕ → Option (Condition × List ℕ)
behind_size q a name size = take_as comparison_of size.1 >>= behind_comparison q a name size.0

abbrev behind_over : Quantifier → Aggregate → List ℕ → Unit {0} × List ℕ → Option (Condition × List ℕ)
behind_over q a name over = take_as size_of over.1 >>= behind_size q a name

abbrev behind_name : Quantifier → Aggregate → List ℕ × List ℕ → Option (Condition × List ℕ)
behind_name q a name = take_as (keyword (codes "over")) name.1 >>= behind_over q a name.0

abbrev behind_aggregate : Quantifier → Aggregate × List ℕ → Option (Condition × List ℕ)
behind_aggregate q aggregate = take_metric aggregate.1 >>= behind_name q aggregate.0

abbrev behind_quantifier : Quantifier × List ℕ → Option (Condition × List ℕ)
behind_quantifier quantifier = take_as aggregate_of_word quantifier.1 >>= behind_aggregate quantifier.0

pub condition_steps : (bytes : List ℕ) (c : Condition × List ℕ) → take_condition bytes ≡ Some c → ConditionSteps bytes c
unfolding take_condition
condition_steps bytes c e =
    let (quantifier, is1, next1) = both_steps (take_as quantifier_of bytes) behind_quantifier c e in
    let (aggregate, is2, next2) = both_steps (take_as aggregate_of_word quantifier.1) (behind_aggregate quantifier.0) c next1 in
    let (name, is3, next3) = both_steps (take_metric aggregate.1) (behind_name quantifier.0 aggregate.0) c next2 in
    let (over, is4, next4) = both_steps (take_as (keyword (codes "over")) name.1) (behind_over quantifier.0 aggregate.0 name.0) c next3 in
    let (size, is5, next5) = both_steps (take_as size_of over.1) (behind_size quantifier.0 aggregate.0 name.0) c next4 in
    let (comparison, is6, next6) = both_steps (take_as comparison_of size.1) (behind_comparison quantifier.0 aggregate.0 name.0 size.0) c next5 in
    let (number, is7, last) = both_steps (take_as whole_number comparison.1) (last_step quantifier.0 aggregate.0 name.0 size.0 comparison.0) c next6 in
    let read : Condition = record { quantifier = quantifier.0; aggregate = aggregate.0; name = name.0; size = size.0; comparison = comparison.0; number = number.0 } in
    record {
      quantifier = quantifier;
      aggregate = aggregate;
      name = name;
      over = over;
      size = size;
      comparison = comparison;
      number = number;
      quantifier_is = is1;
      aggregate_is = is2;
      name_is = is3;
      over_is = is4;
      size_is = is5;
      comparison_is = is6;
      number_is = is7;
      is = same_some (read, number.1) c last;
    }

pub record LineSteps (bytes : List ℕ) (rule : Rule) : Type 0 where
  pub label : List ℕ × List ℕ
  pub when : Unit {0} × List ℕ
  pub first : Condition × List ℕ
  pub conditions : List Condition
  pub label_is : take_label bytes ≡ Some label
  pub when_is : take_as (keyword (codes "when")) label.1 ≡ Some when
  pub first_is : take_condition when.1 ≡ Some first
  pub conditions_are : collect 7 (joint_at first.1) (first.0 ∷ []) first.1 ≡ Some conditions
  pub is : ◌≡◌ {A = Rule} (record { label = label.0; joint = joint_at first.1; conditions = conditions }) rule

abbrev last_of_line : List ℕ → Condition × List ℕ → List Condition → Option Rule
last_of_line label first conditions = Some (record { label = label; joint = joint_at first.1; conditions = conditions })

abbrev behind_first : List ℕ → Condition × List ℕ → Option Rule
behind_first label first = collect 7 (joint_at first.1) (first.0 ∷ []) first.1 >>= last_of_line label first

abbrev behind_when : List ℕ → Unit {0} × List ℕ → Option Rule
behind_when label when = take_condition when.1 >>= behind_first label

abbrev behind_label : List ℕ × List ℕ → Option Rule
behind_label label = take_as (keyword (codes "when")) label.1 >>= behind_when label.0

pub line_steps : (bytes : List ℕ) (rule : Rule) → rule_line bytes ≡ Some rule → LineSteps bytes rule
unfolding rule_line
line_steps bytes rule e =
    let (label, is1, next1) = both_steps (take_label bytes) behind_label rule e in
    let (when, is2, next2) = both_steps (take_as (keyword (codes "when")) label.1) (behind_when label.0) rule next1 in
    let (first, is3, next3) = both_steps (take_condition when.1) (behind_first label.0) rule next2 in
    let (conditions, is4, last) = both_steps (collect 7 (joint_at first.1) (first.0 ∷ []) first.1) (last_of_line label.0 first) rule next3 in
    record {
      label = label;
      when = when;
      first = first;
      conditions = conditions;
      label_is = is1;
      when_is = is2;
      first_is = is3;
      conditions_are = is4;
      is = same_some (record { label = label.0; joint = joint_at first.1; conditions = conditions }) rule last;
    }
