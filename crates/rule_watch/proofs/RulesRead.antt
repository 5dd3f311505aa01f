-- A rule that is written is read again, part by part.
use Rattle.std.proofs.Common.{◌≡◌, ℕ, ℤ, zero, suc, ◌-◌, ◌<◌, ◌≤◌, ◌&&◌, nat_le, true, cond, List, [], ◌∷◌, ◌++◌, length, codes, bytes_eq, decimal, refl, sym, ap, ap₂, ◌∙◌, subst, arith, append_assoc, append-nil, le-leb, Some, None}
use Rattle.std.specs.List.{AllByRecursion}
use Rattle.std.proofs.lemmas.Bool.{and_from}
use Rattle.pcp_base.specs.Names.{IsComponent, IsName, spells, spells_component}
use Rattle.text_lines.specs.Laws.{EndsWord}
use Rattle.text_lines.specs.Numbers.{◌>>=◌}
use Rattle.text_lines.specs.Spelling.{number_part, int_part}
use Rattle.text_lines.specs.Words.{take_as}
use Rattle.text_lines.proofs.Decimals.{number_of-decimal}
use Rattle.text_lines.proofs.MetricWords.{name_is_read}
use Rattle.text_lines.proofs.NumberParts.{whole_is_read, word-decimal}
use Rattle.text_lines.proofs.Splitting.{IsWord, plain_word, first_word_of, behind_word_of, take_as_of}
use Rattle.rule_watch.specs.declared.aggregate.Aggregate.{Aggregate}
use Rattle.rule_watch.specs.declared.aggregate.Aggregate.TheVariants as aggregates
use Rattle.rule_watch.specs.declared.rule.Quantifier.{Quantifier}
use Rattle.rule_watch.specs.declared.rule.Quantifier.TheVariants as quantifiers
use Rattle.rule_watch.specs.declared.rule.Comparison.{Comparison}
use Rattle.rule_watch.specs.declared.rule.Comparison.TheVariants as comparisons
use Rattle.rule_watch.specs.declared.rule.Joint.{Joint}
use Rattle.rule_watch.specs.declared.rule.Joint.TheVariants as joints
use Rattle.rule_watch.specs.declared.rule.Condition.{Condition}
use Rattle.rule_watch.specs.Laws.{RulesAreRead}
use Rattle.rule_watch.specs.Lines.{aggregate_of_word, collect, comparison_of, is_label, joint_at, joint_word, keyword, quantifier_of, rule_line, rule_of, size_of, take_condition, take_joined, take_label, take_metric}
use Rattle.rule_watch.specs.Rules.{IsWritten, IsWrittenCondition}
use Rattle.rule_watch.specs.Spelling.{aggregate_part, comparison_part, condition_text, joined_text, joint_part, quantifier_part, rule_text}
use Rattle.rule_watch.proofs.Conditions.{collected, collects_more}
use Rattle.rule_watch.proofs.RuleNames.{component_spells, label_in_line, name_in_line, name_spells}

-- Words

quantifier_is_read : (q : Quantifier) (more : List ℕ) → EndsWord more → take_as quantifier_of (quantifier_part q ++ more) ≡ Some (q, more)
quantifier_is_read quantifiers.Any more e = take_as_of quantifier_of (codes "some") more quantifiers.Any (plain_word (codes "some") refl) e refl
quantifier_is_read quantifiers.All more e = take_as_of quantifier_of (codes "all") more quantifiers.All (plain_word (codes "all") refl) e refl

aggregate_is_read : (a : Aggregate) (more : List ℕ) → EndsWord more → take_as aggregate_of_word (aggregate_part a ++ more) ≡ Some (a, more)
aggregate_is_read aggregates.Min more e = take_as_of aggregate_of_word (codes "min") more aggregates.Min (plain_word (codes "min") refl) e refl
aggregate_is_read aggregates.Max more e = take_as_of aggregate_of_word (codes "max") more aggregates.Max (plain_word (codes "max") refl) e refl
aggregate_is_read aggregates.Sum more e = take_as_of aggregate_of_word (codes "sum") more aggregates.Sum (plain_word (codes "sum") refl) e refl
aggregate_is_read aggregates.Rise more e = take_as_of aggregate_of_word (codes "rise") more aggregates.Rise (plain_word (codes "rise") refl) e refl

comparison_is_read : (c : Comparison) (more : List ℕ) → EndsWord more → take_as comparison_of (comparison_part c ++ more) ≡ Some (c, more)
comparison_is_read comparisons.Below more e = take_as_of comparison_of (codes "<") more comparisons.Below (plain_word (codes "<") refl) e refl
comparison_is_read comparisons.AtMost more e = take_as_of comparison_of (codes "<=") more comparisons.AtMost (plain_word (codes "<=") refl) e refl
comparison_is_read comparisons.Above more e = take_as_of comparison_of (codes ">") more comparisons.Above (plain_word (codes ">") refl) e refl
comparison_is_read comparisons.AtLeast more e = take_as_of comparison_of (codes ">=") more comparisons.AtLeast (plain_word (codes ">=") refl) e refl
comparison_is_read comparisons.Equal more e = take_as_of comparison_of (codes "==") more comparisons.Equal (plain_word (codes "==") refl) e refl
comparison_is_read comparisons.Unequal more e = take_as_of comparison_of (codes "!=") more comparisons.Unequal (plain_word (codes "!=") refl) e refl

over_is_read : (more : List ℕ) → EndsWord more → take_as (keyword (codes "over")) (codes " over" ++ more) ≡ Some (tt, more)
over_is_read more e = take_as_of (keyword (codes "over")) (codes "over") more tt (plain_word (codes "over") refl) e refl

when_is_read : (more : List ℕ) → EndsWord more → take_as (keyword (codes "when")) (codes " when" ++ more) ≡ Some (tt, more)
when_is_read more e = take_as_of (keyword (codes "when")) (codes "when") more tt (plain_word (codes "when") refl) e refl

joint_is_read : (joint : Joint) (more : List ℕ) → EndsWord more → take_as (keyword (joint_word joint)) (joint_part joint ++ more) ≡ Some (tt, more)
joint_is_read joints.And more e = take_as_of (keyword (codes "and")) (codes "and") more tt (plain_word (codes "and") refl) e refl
joint_is_read joints.Or more e = take_as_of (keyword (codes "or")) (codes "or") more tt (plain_word (codes "or") refl) e refl

-- what follows a word begins with a space
quantifier_ends : (q : Quantifier) (more : List ℕ) → EndsWord (quantifier_part q ++ more)
quantifier_ends quantifiers.Any more = refl
quantifier_ends quantifiers.All more = refl

aggregate_ends : (a : Aggregate) (more : List ℕ) → EndsWord (aggregate_part a ++ more)
aggregate_ends aggregates.Min more = refl
aggregate_ends aggregates.Max more = refl
aggregate_ends aggregates.Sum more = refl
aggregate_ends aggregates.Rise more = refl

comparison_ends : (c : Comparison) (more : List ℕ) → EndsWord (comparison_part c ++ more)
comparison_ends comparisons.Below more = refl
comparison_ends comparisons.AtMost more = refl
comparison_ends comparisons.Above more = refl
comparison_ends comparisons.AtLeast more = refl
comparison_ends comparisons.Equal more = refl
comparison_ends comparisons.Unequal more = refl

joint_ends : (joint : Joint) (more : List ℕ) → EndsWord (joint_part joint ++ more)
joint_ends joints.And more = refl
joint_ends joints.Or more = refl

number_ends : (n : ℕ) (more : List ℕ) → EndsWord (number_part n ++ more)
unfolding number_part
number_ends n more = refl

int_ends : (n : ℤ) (more : List ℕ) → EndsWord (int_part n ++ more)
unfolding int_part
int_ends n more = refl

joined_ends : (joint : Joint) (cs : List Condition) → EndsWord (joined_text joint cs)
unfolding joined_text
joined_ends joint [] = tt
joined_ends joint (c ∷ cs) = joint_ends joint (condition_text c ++ joined_text joint cs)

-- Parts

size_of-decimal : (n : ℕ) → 1 ≤ n → n ≤ 1000 → size_of (decimal n) ≡ Some n
unfolding size_of
size_of-decimal n low high =
    ap (λ o. o >>= (λ m. cond (nat_le 1 m && nat_le m 1000) (Some m) None)) (number_of-decimal n (omega arith))
    ∙ ap (λ b. cond b (Some n) None) (and_from (nat_le 1 n) (nat_le n 1000) (le-leb 1 n low) (le-leb n 1000 high))

size_is_read : (n : ℕ) (more : List ℕ) → 1 ≤ n → n ≤ 1000 → EndsWord more → take_as size_of (number_part n ++ more) ≡ Some (n, more)
unfolding number_part
size_is_read n more low high e = take_as_of size_of (decimal n) more n (word-decimal n (omega arith)) e (size_of-decimal n low high)

metric_is_read : (name more : List ℕ) → IsName name → EndsWord more → take_metric (32 ∷ (name ++ more)) ≡ Some (name, more)
unfolding take_metric
metric_is_read name more is e =
    ap (λ o. o >>= (λ (t : List ℕ × List ℕ). cond (spells true t.0) (Some t) None)) (name_is_read name more (name_in_line name is) e)
    ∙ ap (λ b. cond b (Some (name, more)) None) (name_spells name is)

label_is_read : (label more : List ℕ) → IsComponent label → length label ≤ 63 → EndsWord more → take_label (32 ∷ (label ++ more)) ≡ Some (label, more)
unfolding take_label
label_is_read label more is short e =
    ap (λ o. o >>= (λ (t : List ℕ × List ℕ). cond (is_label t.0) (Some t) None)) (name_is_read label more (label_in_line label is) e)
    ∙ ap (λ b. cond b (Some (label, more)) None) (and_from (nat_le (length label) 63) (spells_component label) (le-leb (length label) 63 short) (component_spells label is))

-- A condition

module _ (c : Condition) (more : List ℕ) where
  -- what stands behind each part
  abbrev pub behind_comparison : List ℕ
  behind_comparison = int_part c.number ++ more

  abbrev pub behind_size : List ℕ
  behind_size = comparison_part c.comparison ++ behind_comparison

  abbrev pub behind_over : List ℕ
  behind_over = number_part c.size ++ behind_size

  abbrev pub behind_name : List ℕ
  behind_name = codes " over" ++ behind_over

  abbrev pub behind_aggregate : List ℕ
  behind_aggregate = 32 ∷ (c.name ++ behind_name)

  abbrev pub behind_quantifier : List ℕ
  behind_quantifier = aggregate_part c.aggregate ++ behind_aggregate

  pub condition_parts : condition_text c ++ more ≡ quantifier_part c.quantifier ++ behind_quantifier
  unfolding condition_text
  condition_parts = simp append_assoc

  condition_ends : EndsWord (condition_text c ++ more)
  condition_ends = subst EndsWord (sym condition_parts) (quantifier_ends c.quantifier behind_quantifier)

  condition_is_read : IsWrittenCondition c → EndsWord more → take_condition (condition_text c ++ more) ≡ Some (c, more)
  unfolding take_condition
  condition_is_read is e =
      let e1 = quantifier_is_read c.quantifier behind_quantifier (aggregate_ends c.aggregate behind_aggregate) in
      let e2 = aggregate_is_read c.aggregate behind_aggregate refl in
      let e3 = metric_is_read c.name behind_name is.name refl in
      let e4 = over_is_read behind_over (number_ends c.size behind_size) in
      let e5 = size_is_read c.size behind_size is.size.0 is.size.1 (comparison_ends c.comparison behind_comparison) in
      let e6 = comparison_is_read c.comparison behind_comparison (int_ends c.number more) in
      let e7 = whole_is_read c.number more is.number e in
      rw (condition_parts, e1, e2, e3, e4, e5, e6, e7)

-- Conditions

joined_is_read : (joint : Joint) (c : Condition) (more : List ℕ) → IsWrittenCondition c → EndsWord more → take_joined joint (joint_part joint ++ (condition_text c ++ more)) ≡ Some (c, more)
unfolding take_joined
joined_is_read joint c more is e =
    ap (λ o. o >>= (λ (w : Unit {0} × List ℕ). take_condition w.1)) (joint_is_read joint (condition_text c ++ more) (condition_ends c more))
    ∙ condition_is_read c more is e

joint_some : (joint : Joint) (more : List ℕ) → 0 < length (joint_part joint ++ more)
joint_some joints.And more = omega arith
joint_some joints.Or more = omega arith

collect_is_read : (joint : Joint) (n : ℕ) (done cs : List Condition) → length cs ≤ n → AllByRecursion IsWrittenCondition cs → collect n joint done (joined_text joint cs) ≡ Some (done ++ cs)
unfolding joined_text
collect_is_read joint n done [] few each = collected n joint done [] refl ∙ ap Some (sym (append-nil done))
collect_is_read joint zero done (c ∷ cs) few each = absurd (omega arith)
collect_is_read joint (suc n) done (c ∷ cs) few each =
    let rest : List ℕ = joined_text joint cs in
    let one : suc n - 1 ≡ n = omega arith in
    collects_more (suc n) joint done (joint_part joint ++ (condition_text c ++ rest)) rest c (omega arith) (joint_some joint (condition_text c ++ rest)) (joined_is_read joint c rest each.0 (joined_ends joint cs))
    ∙ ap (λ k. collect k joint (done ++ c ∷ []) rest) one
    ∙ collect_is_read joint n (done ++ c ∷ []) cs (omega arith) each.1
    ∙ ap Some (append_assoc done (c ∷ []) cs)

joint_at_word : (joint : Joint) (more : List ℕ) → EndsWord more → joint_at (joint_part joint ++ more) ≡ joint
joint_at_word joints.And more e = ap (λ w. cond (bytes_eq w (codes "or")) joints.Or joints.And) (first_word_of (codes "and") more (plain_word (codes "and") refl) e)
joint_at_word joints.Or more e = ap (λ w. cond (bytes_eq w (codes "or")) joints.Or joints.And) (first_word_of (codes "or") more (plain_word (codes "or") refl) e)

-- One condition alone is joined by `And`.
joint_at_text : (joint : Joint) (cs : List Condition) → (length cs ≡ 0 → joint ≡ joints.And) → joint_at (joined_text joint cs) ≡ joint
unfolding joined_text
joint_at_text joint [] alone = sym (alone refl)
joint_at_text joint (c ∷ cs) alone = joint_at_word joint (condition_text c ++ joined_text joint cs) (condition_ends c (joined_text joint cs))

-- A rule

abbrev parts_of : List ℕ → Joint → Condition → List Condition → List ℕ
parts_of label joint c cs = 32 ∷ (label ++ (codes " when" ++ (condition_text c ++ joined_text joint cs)))

line_is_read : (label : List ℕ) (joint : Joint) (c : Condition) (cs : List Condition) → IsWritten (record { label = label; joint = joint; conditions = c ∷ cs })
    → rule_line (parts_of label joint c cs) ≡ Some (record { label = label; joint = joint; conditions = c ∷ cs })
unfolding rule_line
line_is_read label joint c cs is =
    let rest : List ℕ = joined_text joint cs in
    let long : length (c ∷ cs) ≤ 8 = is.few in
    let alone : length cs ≡ 0 → joint ≡ joints.And = λ none. is.alone (let one : length (c ∷ cs) ≡ 1 = omega arith in one) in
    let e1 = label_is_read label (codes " when" ++ (condition_text c ++ rest)) is.label is.short refl in
    let e2 = when_is_read (condition_text c ++ rest) (condition_ends c rest) in
    let e3 = condition_is_read c rest is.each.0 (joined_ends joint cs) in
    let e4 = joint_at_text joint cs alone in
    let e5 = collect_is_read joint 7 (c ∷ []) cs (omega arith) is.each.1 in
    rw (e1, e2, e3, e4, e5)

rule_of_word : (word parts : List ℕ) → IsWord word → EndsWord parts → rule_of (word ++ parts) ≡ cond (bytes_eq word (codes "rule")) (rule_line parts) None
unfolding rule_of
rule_of_word word parts h e = ap₂ (λ w left. cond (bytes_eq w (codes "rule")) (rule_line left) None) (first_word_of word parts h e) (behind_word_of word parts h e)

written_is_read : (label : List ℕ) (joint : Joint) (cs : List Condition) → IsWritten (record { label = label; joint = joint; conditions = cs })
    → rule_of (rule_text (record { label = label; joint = joint; conditions = cs })) ≡ Some (record { label = label; joint = joint; conditions = cs })
unfolding rule_text
written_is_read label joint [] is = absurd (let some : 1 ≤ 0 = is.some in omega arith)
written_is_read label joint (c ∷ cs) is = rule_of_word (codes "rule") (parts_of label joint c cs) (plain_word (codes "rule") refl) refl ∙ line_is_read label joint c cs is

pub rules_read : RulesAreRead
rules_read rule is = written_is_read rule.label rule.joint rule.conditions is
