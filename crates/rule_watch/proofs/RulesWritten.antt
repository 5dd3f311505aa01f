-- A rule that is read may be written, part by part.
use Rattle.std.proofs.Common.{◌≡◌, ℕ, zero, suc, ◌+◌, ◌<◌, ◌≤◌, ◌&&◌, nat_le, true, cond, List, [], ◌∷◌, ◌++◌, length, length-append, codes, bytes_eq, refl, ap, subst, arith, leb-true, Some, None}
use Rattle.std.specs.List.{AllByRecursion}
use Rattle.std.proofs.lemmas.Bool.{and_parts}
use Rattle.pcp_base.specs.Names.{IsComponent, IsName, spells, spells_component}
use Rattle.text_lines.specs.Numbers.{number_of, whole_number}
use Rattle.text_lines.specs.Words.{first_word, behind_word, take_as, name_of}
use Rattle.text_lines.proofs.NumberRanges.{whole_range}
use Rattle.text_lines.proofs.Taking.{both_steps, none_some, passed, passed_to, same_some, word_taken}
use Rattle.rule_watch.specs.declared.rule.Joint.{Joint}
use Rattle.rule_watch.specs.declared.rule.Joint.TheVariants as joints
use Rattle.rule_watch.specs.declared.rule.Condition.{Condition}
use Rattle.rule_watch.specs.declared.rule.Rule.{Rule}
use Rattle.rule_watch.specs.Laws.{OnlyRulesAreRead}
use Rattle.rule_watch.specs.Lines.{collect, is_label, joint_at, joint_word, keyword, rule_line, rule_of, size_of, take_condition, take_joined, take_label, take_metric}
use Rattle.rule_watch.specs.Rules.{IsWritten, IsWrittenCondition}
use Rattle.rule_watch.proofs.RuleNames.{spells_label, spells_name}
use Rattle.rule_watch.proofs.RuleSteps.{condition_steps, line_steps}
use Rattle.rule_watch.proofs.Windows.{all_with}

size_range : (word : List ℕ) (n : ℕ) → size_of word ≡ Some n → (1 ≤ n) × (n ≤ 1000)
unfolding size_of
size_range word n e =
    let (m, reads, next) = both_steps (number_of word) (λ m. cond (nat_le 1 m && nat_le m 1000) (Some m) None) n e in
    let t = passed (nat_le 1 m && nat_le m 1000) m n next in
    let tests = and_parts (nat_le 1 m) (nat_le m 1000) t.0 in
    subst (λ k. (1 ≤ k) × (k ≤ 1000)) t.1 (leb-true 1 m tests.0, leb-true m 1000 tests.1)

metric_range : (bytes : List ℕ) (name : List ℕ × List ℕ) → take_metric bytes ≡ Some name → IsName name.0
unfolding take_metric
metric_range bytes name e =
    let (found, taken, next) = both_steps (take_as name_of bytes) (λ (t : List ℕ × List ℕ). cond (spells true t.0) (Some t) None) name e in
    let t = passed (spells true found.0) found name next in
    subst (λ (n : List ℕ × List ℕ). IsName n.0) t.1 (spells_name found.0 t.0)

abbrev IsLabel : List ℕ → Type 0
IsLabel label = IsComponent label × (length label ≤ 63)

label_range : (bytes : List ℕ) (label : List ℕ × List ℕ) → take_label bytes ≡ Some label → IsLabel label.0
unfolding take_label
label_range bytes label e =
    let (found, taken, next) = both_steps (take_as name_of bytes) (λ (t : List ℕ × List ℕ). cond (is_label t.0) (Some t) None) label e in
    let t = passed (is_label found.0) found label next in
    let tests = and_parts (nat_le (length found.0) 63) (spells_component found.0) t.0 in
    subst (λ (l : List ℕ × List ℕ). IsLabel l.0) t.1 (spells_label found.0 tests.1, leb-true (length found.0) 63 tests.0)

condition_range : (bytes : List ℕ) (c : Condition × List ℕ) → take_condition bytes ≡ Some c → IsWrittenCondition c.0
condition_range bytes c e =
    let s = condition_steps bytes c e in
    let sized = word_taken size_of s.over.1 s.size.1 s.size.0 s.size_is in
    let whole = word_taken whole_number s.comparison.1 s.number.1 s.number.0 s.number_is in
    let read : Condition = record { quantifier = s.quantifier.0; aggregate = s.aggregate.0; name = s.name.0; size = s.size.0; comparison = s.comparison.0; number = s.number.0 } in
    let fits : IsWrittenCondition read =
    record { name = metric_range s.aggregate.1 s.name s.name_is; size = size_range sized.word s.size.0 sized.reads; number = whole_range whole.word s.number.0 whole.reads } in
    subst (λ (t : Condition × List ℕ). IsWrittenCondition t.0) s.is fits

joined_range : (joint : Joint) (bytes : List ℕ) (c : Condition × List ℕ) → take_joined joint bytes ≡ Some c → IsWrittenCondition c.0
unfolding take_joined
joined_range joint bytes c e =
    let (word, is, next) = both_steps (take_as (keyword (joint_word joint)) bytes) (λ (w : Unit {0} × List ℕ). take_condition w.1) c e in condition_range word.1 c next

-- conditions that were collected behind others
record Collected (n : ℕ) (done : List Condition) (bytes : List ℕ) (cs : List Condition) : Type 0 where
  pub each : AllByRecursion IsWrittenCondition cs
  pub least : length done ≤ length cs
  pub most : length cs ≤ length done + n
  pub more : 0 < length bytes → length done < length cs

collect_range : (n : ℕ) (joint : Joint) (done : List Condition) (bytes : List ℕ) (cs : List Condition) → AllByRecursion IsWrittenCondition done → collect n joint done bytes ≡ Some cs → Collected n done bytes cs
unfolding collect
collect_range n joint done [] cs all e =
    let same : done ≡ cs = same_some done cs e in
    record { each = subst (AllByRecursion IsWrittenCondition) same all; least = omega (arith, ap length same); most = omega (arith, ap length same); more = λ some. absurd (omega arith) }
collect_range zero joint done (b ∷ bs) cs all e = absurd (none_some cs e)
collect_range (suc n) joint done (b ∷ bs) cs all e =
    let (more, is, next) = both_steps (take_joined joint (b ∷ bs)) (λ (m : Condition × List ℕ). collect n joint (done ++ m.0 ∷ []) m.1) cs e in
    let long : length (done ++ more.0 ∷ []) ≡ length done + 1 = length-append done (more.0 ∷ []) in
    let later = collect_range n joint (done ++ more.0 ∷ []) more.1 cs (all_with IsWrittenCondition done more.0 all (joined_range joint (b ∷ bs) more is)) next in
    let least : length (done ++ more.0 ∷ []) ≤ length cs = later.least in
    let most : length cs ≤ length (done ++ more.0 ∷ []) + n = later.most in
    record { each = later.each; least = omega arith; most = omega arith; more = λ some. omega arith }

-- where nothing stands behind the first condition
joint_alone : (bytes : List ℕ) (n : ℕ) → (0 < length bytes → 1 < n) → n ≡ 1 → joint_at bytes ≡ joints.And
joint_alone [] n more one = refl
joint_alone (b ∷ bs) n more one = absurd (let two : 1 < n = more (omega arith) in omega arith)

line_range : (bytes : List ℕ) (rule : Rule) → rule_line bytes ≡ Some rule → IsWritten rule
line_range bytes rule e =
    let s = line_steps bytes rule e in
    let named = label_range bytes s.label s.label_is in
    let got = collect_range 7 (joint_at s.first.1) (s.first.0 ∷ []) s.first.1 s.conditions (condition_range s.when.1 s.first s.first_is, tt) s.conditions_are in
    let read : Rule = record { label = s.label.0; joint = joint_at s.first.1; conditions = s.conditions } in
    let least : 1 ≤ length s.conditions = got.least in
    let most : length s.conditions ≤ 8 = got.most in
    let fits : IsWritten read =
    record { label = named.0; short = named.1; some = least; few = most; each = got.each; alone = joint_alone s.first.1 (length s.conditions) got.more } in
    subst IsWritten s.is fits

pub rules_written : OnlyRulesAreRead
unfolding rule_of
rules_written line rule e = let t = passed_to (bytes_eq (first_word line) (codes "rule")) (rule_line (behind_word line)) rule e in line_range (behind_word line) rule t.1
