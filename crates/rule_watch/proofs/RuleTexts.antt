-- A text that is written of rules is read as these rules: no line feed stands in a rule, and no rule is refused.
use Rattle.std.proofs.Common.{◌≡◌, ◌≢◌, ℕ, suc, ◌+◌, ◌<◌, ◌≤◌, Bool, true, false, ◌||◌, cond, ltb, List, [], ◌∷◌, ◌++◌, length, length-append, get_or, codes, bytes_eq, refl, sym, ap, ◌∙◌, subst, arith, append_assoc, append-nil, lt-ltb, ne_eqb, Ok, Err, All}
use Rattle.std.specs.List.{AllByRecursion, AllPairs}
use Rattle.std.proofs.lemmas.List.Elements.{All-nil, All-append, All-head, All-tail}
use Rattle.std.proofs.lemmas.Slice.Eq.{bytes_eq-Decides}
use Rattle.text_lines.specs.Laws.{IsLineByte}
use Rattle.text_lines.specs.Lines.{prepend, lines_of}
use Rattle.text_lines.specs.Spelling.{number_part, int_part}
use Rattle.text_lines.proofs.Feeds.{fed, feed_lines, other_lines}
use Rattle.text_lines.proofs.LineBytes.{behind_byte, number_in_line, plain_bytes, whole_in_line}
use Rattle.text_lines.proofs.MetricWords as words
use Rattle.rule_watch.specs.declared.aggregate.Aggregate.{Aggregate}
use Rattle.rule_watch.specs.declared.aggregate.Aggregate.TheVariants as aggregates
use Rattle.rule_watch.specs.declared.rule.Quantifier.{Quantifier}
use Rattle.rule_watch.specs.declared.rule.Quantifier.TheVariants as quantifiers
use Rattle.rule_watch.specs.declared.rule.Comparison.{Comparison}
use Rattle.rule_watch.specs.declared.rule.Comparison.TheVariants as comparisons
use Rattle.rule_watch.specs.declared.rule.Joint.{Joint}
use Rattle.rule_watch.specs.declared.rule.Joint.TheVariants as joints
use Rattle.rule_watch.specs.declared.rule.Condition.{Condition}
use Rattle.rule_watch.specs.declared.rule.Rule.{Rule}
use Rattle.rule_watch.specs.declared.fault.RuleLineFault.TheVariants as faults
use Rattle.rule_watch.specs.Laws.{TextsAreRead}
use Rattle.rule_watch.specs.Reading.{and_then, rules_of, with_full_line, with_lines, with_rule}
use Rattle.rule_watch.specs.Rules.{AreRules, IsWritten, IsWrittenCondition, has_label}
use Rattle.rule_watch.specs.Spelling.{aggregate_part, comparison_part, condition_text, conditions_text, joined_text, joint_part, quantifier_part, rule_text, rules_text}
use Rattle.rule_watch.proofs.RuleNames.{label_in_line, name_in_line}
use Rattle.rule_watch.proofs.RulesRead.{rules_read}

-- A rule is one line

quantifier_bytes : (q : Quantifier) → All IsLineByte (quantifier_part q)
quantifier_bytes quantifiers.Any = plain_bytes (codes " some") refl
quantifier_bytes quantifiers.All = plain_bytes (codes " all") refl

aggregate_bytes : (a : Aggregate) → All IsLineByte (aggregate_part a)
aggregate_bytes aggregates.Min = plain_bytes (codes " min") refl
aggregate_bytes aggregates.Max = plain_bytes (codes " max") refl
aggregate_bytes aggregates.Sum = plain_bytes (codes " sum") refl
aggregate_bytes aggregates.Rise = plain_bytes (codes " rise") refl

comparison_bytes : (c : Comparison) → All IsLineByte (comparison_part c)
comparison_bytes comparisons.Below = plain_bytes (codes " <") refl
comparison_bytes comparisons.AtMost = plain_bytes (codes " <=") refl
comparison_bytes comparisons.Above = plain_bytes (codes " >") refl
comparison_bytes comparisons.AtLeast = plain_bytes (codes " >=") refl
comparison_bytes comparisons.Equal = plain_bytes (codes " ==") refl
comparison_bytes comparisons.Unequal = plain_bytes (codes " !=") refl

joint_bytes : (joint : Joint) → All IsLineByte (joint_part joint)
joint_bytes joints.And = plain_bytes (codes " and") refl
joint_bytes joints.Or = plain_bytes (codes " or") refl

both : (xs ys : List ℕ) → All IsLineByte xs → All IsLineByte ys → All IsLineByte (xs ++ ys)
both xs ys h k = All-append IsLineByte xs ys h k

condition_bytes : (c : Condition) → IsWrittenCondition c → All IsLineByte (condition_text c)
unfolding condition_text
condition_bytes c is =
    let low : 1 ≤ c.size = is.size.0 in
    let high : c.size ≤ 1000 = is.size.1 in
    let t1 : List ℕ = comparison_part c.comparison ++ int_part c.number in
    let t2 : List ℕ = number_part c.size ++ t1 in
    let t3 : List ℕ = codes " over" ++ t2 in
    let t4 : List ℕ = 32 ∷ (c.name ++ t3) in
    let h1 : All IsLineByte t1 = both (comparison_part c.comparison) (int_part c.number) (comparison_bytes c.comparison) (whole_in_line c.number is.number) in
    let h2 : All IsLineByte t2 = both (number_part c.size) t1 (number_in_line c.size (omega arith)) h1 in
    let h3 : All IsLineByte t3 = both (codes " over") t2 (plain_bytes (codes " over") refl) h2 in
    let h4 : All IsLineByte t4 = behind_byte 32 (c.name ++ t3) (omega arith) (omega arith) (both c.name t3 (words.name_in_line c.name (name_in_line c.name is.name)) h3) in
    both (quantifier_part c.quantifier) (aggregate_part c.aggregate ++ t4) (quantifier_bytes c.quantifier) (both (aggregate_part c.aggregate) t4 (aggregate_bytes c.aggregate) h4)

joined_bytes : (joint : Joint) (cs : List Condition) → AllByRecursion IsWrittenCondition cs → All IsLineByte (joined_text joint cs)
unfolding joined_text
joined_bytes joint [] each = All-nil IsLineByte
joined_bytes joint (c ∷ cs) each =
    both (joint_part joint) (condition_text c ++ joined_text joint cs) (joint_bytes joint)
    (both (condition_text c) (joined_text joint cs) (condition_bytes c each.0) (joined_bytes joint cs each.1))

conditions_bytes : (joint : Joint) (cs : List Condition) → AllByRecursion IsWrittenCondition cs → All IsLineByte (conditions_text joint cs)
conditions_bytes joint [] each = All-nil IsLineByte
conditions_bytes joint (c ∷ cs) each = both (condition_text c) (joined_text joint cs) (condition_bytes c each.0) (joined_bytes joint cs each.1)

rule_bytes : (rule : Rule) → IsWritten rule → All IsLineByte (rule_text rule)
unfolding rule_text
rule_bytes rule is =
    let t1 : List ℕ = conditions_text rule.joint rule.conditions in
    let t2 : List ℕ = codes " when" ++ t1 in
    let h2 : All IsLineByte t2 = both (codes " when") t1 (plain_bytes (codes " when") refl) (conditions_bytes rule.joint rule.conditions is.each) in
    both (codes "rule") (32 ∷ (rule.label ++ t2)) (plain_bytes (codes "rule") refl)
    (behind_byte 32 (rule.label ++ t2) (omega arith) (omega arith) (both rule.label t2 (words.name_in_line rule.label (label_in_line rule.label is.label)) h2))

first_line : (text more : List ℕ) → All IsLineByte text → lines_of (text ++ 10 ∷ more) ≡ (text ++ 10 ∷ []) ∷ lines_of more
unfolding prepend
first_line [] more h = feed_lines 10 more refl
first_line (b ∷ text) more h =
    other_lines b (text ++ 10 ∷ more) (ne_eqb b 10 (All-head IsLineByte b text h).1) ∙ ap (prepend b) (first_line text more (All-tail IsLineByte b text h))

-- Rules one behind another

each_at : {X : Type 0} (P : X → Type 0) (xs : List X) (x : X) (ys : List X) → AllByRecursion P (xs ++ x ∷ ys) → P x
each_at P [] x ys each = each.0
each_at P (y ∷ xs) x ys each = each_at P xs x ys each.1

at_place : {X : Type 0} (xs : List X) (x : X) (ys : List X) (d : X) → get_or (xs ++ x ∷ ys) (length xs) d ≡ x
at_place [] x ys d = refl
at_place (y ∷ xs) x ys d = at_place xs x ys d

must_fail : (b : Bool) → (b ≡ true → ⊥) → b ≡ false
must_fail true h = absurd (h refl)
must_fail false h = refl

new_label : (done : List Rule) (rule : Rule) (rules : List Rule) → AllPairs (λ a b. a.label ≢ b.label) (done ++ rule ∷ rules) → has_label done rule.label ≡ false
new_label [] rule rules differ = refl
new_label (d ∷ done) rule rules differ =
    let inside : suc (length done) < length (d ∷ (done ++ rule ∷ rules)) = omega (arith, length-append done (rule ∷ rules)) in
    let other : d.label ≢ rule.label = λ e. differ 0 (suc (length done)) d (omega arith) inside (e ∙ ap (λ (r : Rule). r.label) (sym (at_place done rule rules d))) in
    ap (λ b. b || has_label done rule.label) (must_fail (bytes_eq d.label rule.label) (λ e. other ((bytes_eq-Decides d.label rule.label).0 e)))
    ∙ new_label done rule rules (λ i j e less below. differ (suc i) (suc j) e (omega arith) (omega arith))

read_behind : (done rules : List Rule) (number : ℕ) → AreRules (done ++ rules) → with_lines (lines_of (rules_text rules)) number done ≡ Ok (done ++ rules)
unfolding with_lines lines_of rules_text
read_behind done [] number are = ap Ok (sym (append-nil done))
read_behind done (rule ∷ rules) number are =
    let is : IsWritten rule = each_at IsWritten done rule rules are.each in
    let few : length (done ++ rule ∷ rules) ≤ 64 = are.few in
    let room : length done < 64 = omega (arith, length-append done (rule ∷ rules)) in
    let next = λ (later : List Rule). with_lines (lines_of (rules_text rules)) (number + 1) later in
    ap (λ lines. with_lines lines number done) (first_line (rule_text rule) (rules_text rules) (rule_bytes rule is))
    ∙ ap (λ line. and_then (with_full_line done line) number next) (fed (rule_text rule))
    ∙ ap (λ read. and_then (with_rule done read) number next) (rules_read rule is)
    ∙ ap (λ b. and_then (cond b (Err faults.Condition) (cond (ltb (length done) 64) (Ok (done ++ rule ∷ [])) (Err faults.Many))) number next) (new_label done rule rules are.differ)
    ∙ ap (λ b. and_then (cond b (Ok (done ++ rule ∷ [])) (Err faults.Many)) number next) (lt-ltb (length done) 64 room)
    ∙ read_behind (done ++ rule ∷ []) rules (number + 1) (subst AreRules (sym (append_assoc done (rule ∷ []) rules)) are)
    ∙ ap Ok (append_assoc done (rule ∷ []) rules)

pub texts_read : TextsAreRead
unfolding rules_of
texts_read rules are = read_behind [] rules 1 are
