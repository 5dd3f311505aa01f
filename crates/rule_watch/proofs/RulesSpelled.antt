-- A line that is read as a rule is what is written of the rule, unless a number stands in it as `-0`.
use Rattle.std.proofs.Common.{◌≡◌, ◌≢◌, ℕ, ℤ, pos, neg_ℤ, zero, suc, ◌+◌, ◌-◌, ◌*◌, ◌/◌, ◌%◌, ◌^◌, ◌<◌, ◌≤◌, ◌==◌, ◌&&◌, nat_le, true, cond, List, [], ◌∷◌, ◌++◌, length, drop, codes, bytes_eq, decimal, refl, sym, ap, ap₂, ◌∙◌, subst, arith, append_assoc, append-nil, leb-true, eqb-true, ⊎_elim, Option, Some, None}
use Rattle.std.specs.List.{list_all, list_any}
use Rattle.std.specs.Fmt.{signed_decimal}
use Rattle.std.proofs.lemmas.Bool.{and_parts, cases_lt, eqb-false}
use Rattle.std.proofs.lemmas.Fmt.{decimal_digit, decimal_step_wide}
use Rattle.std.proofs.lemmas.List.{take-append-drop}
use Rattle.std.proofs.lemmas.Slice.Eq.{bytes_eq-Decides}
use Rattle.pcp_base.specs.Names.{spells}
use Rattle.text_lines.specs.Numbers.{◌>>=◌, is_digit, digits_value, digits_number, number_of, whole_number}
use Rattle.text_lines.specs.Spelling.{number_part, int_part}
use Rattle.text_lines.specs.Words.{word_length, first_word, behind_word, take_space, take_word, take_as, name_of}
use Rattle.text_lines.proofs.NumberRanges.{number_range}
use Rattle.text_lines.proofs.Taking.{both_steps, either, none_some, passed, passed_to, same_some, word_taken}
use Rattle.rule_watch.specs.declared.aggregate.Aggregate.{Aggregate}
use Rattle.rule_watch.specs.declared.aggregate.Aggregate.TheVariants as aggregates
use Rattle.rule_watch.specs.declared.rule.Quantifier.{Quantifier}
use Rattle.rule_watch.specs.declared.rule.Quantifier.TheVariants as quantifiers
use Rattle.rule_watch.specs.declared.rule.Comparison.{Comparison}
use Rattle.rule_watch.specs.declared.rule.Comparison.TheVariants as comparisons
use Rattle.rule_watch.specs.declared.rule.Joint.{Joint}
use Rattle.rule_watch.specs.declared.rule.Joint.TheVariants as joints
use Rattle.rule_watch.specs.declared.rule.Condition.{Condition}
use Rattle.rule_watch.specs.declared.rule.Rule.{Rule}
use Rattle.rule_watch.specs.Laws.{HasNoMinusZero, SpellingIsOne}
use Rattle.rule_watch.specs.Lines.{aggregate_of_word, collect, comparison_of, is_label, joint_at, joint_word, keyword, quantifier_of, rule_line, rule_of, size_of, take_condition, take_joined, take_label, take_metric}
use Rattle.rule_watch.specs.Spelling.{aggregate_part, comparison_part, condition_text, conditions_text, joined_text, joint_part, quantifier_part, rule_text}
use Rattle.rule_watch.proofs.RuleSteps.{condition_steps, line_steps}
use Rattle.rule_watch.proofs.RulesRead.{condition_parts}

-- Words

-- a word was read behind one space
record Word {X : Type 0} (read : List ℕ → Option X) (bytes left : List ℕ) (x : X) : Type 0 where
  pub word : List ℕ
  pub reads : read word ≡ Some x
  pub is : bytes ≡ 32 ∷ (word ++ left)

space_first : (bytes : List ℕ) (s : Unit {0} × List ℕ) → take_space bytes ≡ Some s → bytes ≡ 32 ∷ drop 1 bytes
space_first [] s e = cc
space_first (b ∷ bs) s e = ap (λ c. c ∷ bs) (eqb-true b 32 (passed (b == 32) (tt, bs) s e).0)

word_first : {X : Type 0} (read : List ℕ → Option X) (bytes : List ℕ) (r : X × List ℕ) → take_as read bytes ≡ Some r → bytes ≡ 32 ∷ drop 1 bytes
unfolding take_as take_word
word_first read bytes r e =
    let (w, worded, next) = both_steps (take_word bytes) (λ w. read w.0 >>= (λ y. Some (y, w.1))) r e in
    let (s, spaced, split) = both_steps (take_space bytes) (λ s. Some (first_word s.1, behind_word s.1)) w worded in
    space_first bytes s spaced

worded : {X : Type 0} (read : List ℕ → Option X) (bytes : List ℕ) (r : X × List ℕ) → take_as read bytes ≡ Some r → Word read bytes r.1 r.0
worded read bytes r e =
    let was = word_taken read bytes r.1 r.0 e in
    record {
      word = was.word;
      reads = was.reads;
      is = word_first read bytes r e
          ∙ ap (λ bs. 32 ∷ bs) (sym (take-append-drop was.count (drop 1 bytes)) ∙ ap₂ (λ a b. a ++ b) was.is was.behind);
    }

-- what is left has no `-0` either
still_none : (front left bytes : List ℕ) → bytes ≡ front ++ left → HasNoMinusZero bytes → HasNoMinusZero left
still_none front left bytes is none before behind e =
    none (front ++ before) behind (is ∙ ap (λ bs. front ++ bs) e ∙ sym (append_assoc front before (codes "-0" ++ behind)))

keyword_is : (text word : List ℕ) (u : Unit {0}) → keyword text word ≡ Some u → word ≡ text
keyword_is text word u e = (bytes_eq-Decides word text).0 (passed (bytes_eq word text) tt u e).0

-- the word of one of several
one_word : {X : Type 0} (part : X → List ℕ) (word text : List ℕ) (x y : X) (others : Option X) → part x ≡ 32 ∷ text → (others ≡ Some y → part y ≡ 32 ∷ word)
    → cond (bytes_eq word text) (Some x) others ≡ Some y → part y ≡ 32 ∷ word
one_word {X} part word text x y others spelled later e =
    ⊎_elim (λ t. ap part (sym (same_some x y t.1)) ∙ spelled ∙ ap (λ w. 32 ∷ w) (sym ((bytes_eq-Decides word text).0 t.0))) (λ t. later t.1)
    (either (bytes_eq word text) (Some x) others (Some y) e)

none_left : {X : Type 0} (part : X → List ℕ) (word : List ℕ) (y : X) → None ≡ Some y → part y ≡ 32 ∷ word
none_left part word y e = absurd (none_some y e)

quantifier_is : (word : List ℕ) (y : Quantifier) → quantifier_of word ≡ Some y → quantifier_part y ≡ 32 ∷ word
quantifier_is word y =
    one_word quantifier_part word (codes "some") quantifiers.Any y _ refl
    (one_word quantifier_part word (codes "all") quantifiers.All y None refl (none_left quantifier_part word y))

aggregate_is : (word : List ℕ) (y : Aggregate) → aggregate_of_word word ≡ Some y → aggregate_part y ≡ 32 ∷ word
aggregate_is word y =
    one_word aggregate_part word (codes "min") aggregates.Min y _ refl
    (one_word aggregate_part word (codes "max") aggregates.Max y _ refl
    (one_word aggregate_part word (codes "sum") aggregates.Sum y _ refl
    (one_word aggregate_part word (codes "rise") aggregates.Rise y None refl (none_left aggregate_part word y))))

comparison_is : (word : List ℕ) (y : Comparison) → comparison_of word ≡ Some y → comparison_part y ≡ 32 ∷ word
comparison_is word y =
    one_word comparison_part word (codes "<") comparisons.Below y _ refl
    (one_word comparison_part word (codes "<=") comparisons.AtMost y _ refl
    (one_word comparison_part word (codes ">") comparisons.Above y _ refl
    (one_word comparison_part word (codes ">=") comparisons.AtLeast y _ refl
    (one_word comparison_part word (codes "==") comparisons.Equal y _ refl
    (one_word comparison_part word (codes "!=") comparisons.Unequal y None refl (none_left comparison_part word y))))))

name_is : (word name : List ℕ) → name_of word ≡ Some name → word ≡ name
unfolding name_of
name_is [] name e = cc
name_is (b ∷ bs) name e =
    ⊎_elim (λ t. absurd (none_some name t.1))
    (λ t. ⊎_elim (λ u. absurd (none_some name u.1)) (λ u. same_some (b ∷ bs) name u.1)
    (either (list_any (λ c. c == 0) (b ∷ bs)) None (Some (b ∷ bs)) (Some name) t.1))
    (either (b == 34) None (cond (list_any (λ c. c == 0) (b ∷ bs)) None (Some (b ∷ bs))) (Some name) e)

-- Numbers

digit_between : (b : ℕ) → is_digit b ≡ true → (48 ≤ b) × (b ≤ 57)
digit_between b h = let t = and_parts (nat_le 48 b) (nat_le b 57) h in (leb-true 48 b t.0, leb-true b 57 t.1)

at_least : (n : ℕ) (ds : List ℕ) → n ≤ digits_value n ds
at_least n [] = omega arith
at_least n (b ∷ bs) = let more : 10 * n + (b - 48) ≤ digits_value (10 * n + (b - 48)) bs = at_least (10 * n + (b - 48)) bs in omega arith

digits_behind : (n : ℕ) (ds : List ℕ) → 0 < n → list_all is_digit ds ≡ true → digits_value n ds < 10 ^ 20 → decimal (digits_value n ds) ≡ decimal n ++ ds
digits_behind n [] some all small = sym (append-nil (decimal n))
digits_behind n (b ∷ bs) some all small =
    let tests = and_parts (is_digit b) (list_all is_digit bs) all in
    let digit : (48 ≤ b) × (b ≤ 57) = digit_between b tests.0 in
    let low : 48 ≤ b = digit.0 in
    let high : b ≤ 57 = digit.1 in
    let m : ℕ = 10 * n + (b - 48) in
    let grown : m ≤ digits_value m bs = at_least m bs in
    let front : m / 10 ≡ n = omega arith in
    let end : 48 + m % 10 ≡ b = omega arith in
    digits_behind m bs (omega arith) tests.1 small
    ∙ ap (λ ds. ds ++ bs) (decimal_step_wide m (omega arith) (omega arith) ∙ ap₂ (λ k d. decimal k ++ d ∷ []) front end)
    ∙ append_assoc (decimal n) (b ∷ []) bs

digits_are : (b : ℕ) (bs : List ℕ) (n : ℕ) → b ≢ 48 → digits_number (b ∷ bs) ≡ Some n → n < 10 ^ 20 → b ∷ bs ≡ decimal n
digits_are b bs n first e small =
    let t = passed (list_all is_digit (b ∷ bs)) (digits_value 0 (b ∷ bs)) n e in
    let tests = and_parts (is_digit b) (list_all is_digit bs) t.0 in
    let digit : (48 ≤ b) × (b ≤ 57) = digit_between b tests.0 in
    let low : 48 ≤ b = digit.0 in
    let high : b ≤ 57 = digit.1 in
    let some : 0 < 10 * 0 + (b - 48) = ⊎_elim (λ (h : b < 49). absurd (first (omega arith))) (λ (h : 49 ≤ b). omega arith) (cases_lt b 49) in
    let back : 48 + (10 * 0 + (b - 48)) ≡ b = omega arith in
    sym (
    ap decimal (sym t.1)
    ∙ digits_behind (10 * 0 + (b - 48)) bs some tests.1 (subst (λ k. k < 10 ^ 20) (sym t.1) small)
    ∙ ap (λ ds. ds ++ bs) (decimal_digit (10 * 0 + (b - 48)) (omega arith) ∙ ap (λ d. d ∷ []) back))

zero_is : (bs : List ℕ) (n : ℕ) → cond (length bs == 0) (Some 0) None ≡ Some n → 48 ∷ bs ≡ decimal n
zero_is [] n e = sym (ap decimal (sym (same_some 0 n e)) ∙ decimal_digit 0 (omega arith))
zero_is (b ∷ bs) n e = absurd (omega (arith, eqb-true (length (b ∷ bs)) 0 (passed (length (b ∷ bs) == 0) 0 n e).0))

number_is : (word : List ℕ) (n : ℕ) → number_of word ≡ Some n → word ≡ decimal n
number_is [] n e = cc
number_is (b ∷ bs) n e =
    ⊎_elim (λ t. ap (λ d. d ∷ bs) (eqb-true b 48 t.0) ∙ zero_is bs n t.1)
    (λ t. digits_are b bs n (eqb-false b 48 t.0) (passed_to (nat_le (length (b ∷ bs)) 20) (digits_number (b ∷ bs)) n t.1).1 (number_range (b ∷ bs) n e))
    (either (b == 48) (cond (length bs == 0) (Some 0) None) (cond (nat_le (length (b ∷ bs)) 20) (digits_number (b ∷ bs)) None) (Some n) e)

size_is : (word : List ℕ) (n : ℕ) → size_of word ≡ Some n → word ≡ decimal n
unfolding size_of
size_is word n e =
    let (m, reads, next) = both_steps (number_of word) (λ m. cond (nat_le 1 m && nat_le m 1000) (Some m) None) n e in
    number_is word m reads ∙ ap decimal (passed (nat_le 1 m && nat_le m 1000) m n next).1

negative_is : (word : List ℕ) (n : ℕ) → number_of word ≡ Some n → 45 ∷ word ≢ codes "-0" → 45 ∷ word ≡ signed_decimal (neg_ℤ (pos n))
negative_is word zero e nonzero = absurd (nonzero (ap (λ w. 45 ∷ w) (number_is word 0 e ∙ decimal_digit 0 (omega arith))))
negative_is word (suc n) e nonzero = ap (λ w. 45 ∷ w) (number_is word (suc n) e)

whole_is : (word : List ℕ) (n : ℤ) → whole_number word ≡ Some n → word ≢ codes "-0" → word ≡ signed_decimal n
unfolding whole_number
whole_is [] n e nonzero = cc
whole_is (b ∷ bs) n e nonzero =
    ⊎_elim
    (λ t. let (m, reads, is) = both_steps (number_of bs) (λ m. Some (neg_ℤ (pos m))) n t.1 in
    let minus : b ≡ 45 = eqb-true b 45 t.0 in
    ap (λ d. d ∷ bs) minus ∙ negative_is bs m reads (λ z. nonzero (ap (λ d. d ∷ bs) minus ∙ z)) ∙ ap signed_decimal (same_some (neg_ℤ (pos m)) n is))
    (λ t. let (m, reads, is) = both_steps (number_of (b ∷ bs)) (λ m. Some (pos m)) n t.1 in
    number_is (b ∷ bs) m reads ∙ ap signed_decimal (same_some (pos m) n is))
    (either (b == 45) (number_of bs >>= (λ m. Some (neg_ℤ (pos m)))) (number_of (b ∷ bs) >>= (λ m. Some (pos m))) (Some n) e)

-- Parts

-- a part that was taken, by how it is written
part_is : {X : Type 0} (part : X → List ℕ) (read : List ℕ → Option X) → ((word : List ℕ) (x : X) → read word ≡ Some x → part x ≡ 32 ∷ word)
    → (bytes : List ℕ) (r : X × List ℕ) → take_as read bytes ≡ Some r → bytes ≡ part r.0 ++ r.1
part_is part read spelled bytes r e = let w = worded read bytes r e in w.is ∙ ap (λ p. p ++ r.1) (sym (spelled w.word r.0 w.reads))

keyword_part : (text bytes : List ℕ) (r : Unit {0} × List ℕ) → take_as (keyword text) bytes ≡ Some r → bytes ≡ 32 ∷ (text ++ r.1)
keyword_part text bytes r e = let w = worded (keyword text) bytes r e in w.is ∙ ap (λ p. 32 ∷ (p ++ r.1)) (keyword_is text w.word r.0 w.reads)

name_part : (bytes : List ℕ) (r : List ℕ × List ℕ) → take_as name_of bytes ≡ Some r → bytes ≡ 32 ∷ (r.0 ++ r.1)
name_part bytes r e = let w = worded name_of bytes r e in w.is ∙ ap (λ p. 32 ∷ (p ++ r.1)) (name_is w.word r.0 w.reads)

metric_part : (bytes : List ℕ) (r : List ℕ × List ℕ) → take_metric bytes ≡ Some r → bytes ≡ 32 ∷ (r.0 ++ r.1)
unfolding take_metric
metric_part bytes r e =
    let (found, taken, next) = both_steps (take_as name_of bytes) (λ (t : List ℕ × List ℕ). cond (spells true t.0) (Some t) None) r e in
    name_part bytes r (taken ∙ ap Some (passed (spells true found.0) found r next).1)

label_part : (bytes : List ℕ) (r : List ℕ × List ℕ) → take_label bytes ≡ Some r → bytes ≡ 32 ∷ (r.0 ++ r.1)
unfolding take_label
label_part bytes r e =
    let (found, taken, next) = both_steps (take_as name_of bytes) (λ (t : List ℕ × List ℕ). cond (is_label t.0) (Some t) None) r e in
    name_part bytes r (taken ∙ ap Some (passed (is_label found.0) found r next).1)

size_part : (bytes : List ℕ) (r : ℕ × List ℕ) → take_as size_of bytes ≡ Some r → bytes ≡ number_part r.0 ++ r.1
unfolding number_part
size_part bytes r e = let w = worded size_of bytes r e in w.is ∙ ap (λ p. 32 ∷ (p ++ r.1)) (size_is w.word r.0 w.reads)

whole_part : (bytes : List ℕ) (r : ℤ × List ℕ) → HasNoMinusZero bytes → take_as whole_number bytes ≡ Some r → bytes ≡ int_part r.0 ++ r.1
unfolding int_part
whole_part bytes r none e =
    let w = worded whole_number bytes r e in
    w.is ∙ ap (λ p. 32 ∷ (p ++ r.1)) (whole_is w.word r.0 w.reads (λ z. none (32 ∷ []) r.1 (w.is ∙ ap (λ p. 32 ∷ (p ++ r.1)) z)))

-- A condition

condition_spelled : (bytes : List ℕ) (c : Condition × List ℕ) → HasNoMinusZero bytes → take_condition bytes ≡ Some c → bytes ≡ condition_text c.0 ++ c.1
condition_spelled bytes c none e =
    let s = condition_steps bytes c e in
    let q : List ℕ = quantifier_part s.quantifier.0 in
    let a : List ℕ = aggregate_part s.aggregate.0 in
    let p1 : bytes ≡ q ++ s.quantifier.1 = part_is quantifier_part quantifier_of quantifier_is bytes s.quantifier s.quantifier_is in
    let p2 : s.quantifier.1 ≡ a ++ s.aggregate.1 = part_is aggregate_part aggregate_of_word aggregate_is s.quantifier.1 s.aggregate s.aggregate_is in
    let p3 : s.aggregate.1 ≡ 32 ∷ (s.name.0 ++ s.name.1) = metric_part s.aggregate.1 s.name s.name_is in
    let p4 : s.name.1 ≡ codes " over" ++ s.over.1 = keyword_part (codes "over") s.name.1 s.over s.over_is in
    let p5 : s.over.1 ≡ number_part s.size.0 ++ s.size.1 = size_part s.over.1 s.size s.size_is in
    let p6 : s.size.1 ≡ comparison_part s.comparison.0 ++ s.comparison.1 = part_is comparison_part comparison_of comparison_is s.size.1 s.comparison s.comparison_is in
    let n1 : HasNoMinusZero s.quantifier.1 = still_none q s.quantifier.1 bytes p1 none in
    let n2 : HasNoMinusZero s.aggregate.1 = still_none a s.aggregate.1 s.quantifier.1 p2 n1 in
    let n3 : HasNoMinusZero s.name.1 = still_none (32 ∷ s.name.0) s.name.1 s.aggregate.1 p3 n2 in
    let n4 : HasNoMinusZero s.over.1 = still_none (codes " over") s.over.1 s.name.1 p4 n3 in
    let n5 : HasNoMinusZero s.size.1 = still_none (number_part s.size.0) s.size.1 s.over.1 p5 n4 in
    let n6 : HasNoMinusZero s.comparison.1 = still_none (comparison_part s.comparison.0) s.comparison.1 s.size.1 p6 n5 in
    let p7 : s.comparison.1 ≡ int_part s.number.0 ++ s.number.1 = whole_part s.comparison.1 s.number n6 s.number_is in
    let read : Condition = record { quantifier = s.quantifier.0; aggregate = s.aggregate.0; name = s.name.0; size = s.size.0; comparison = s.comparison.0; number = s.number.0 } in
    subst (λ (t : Condition × List ℕ). bytes ≡ condition_text t.0 ++ t.1) s.is
    (p1
    ∙ ap (λ t. q ++ t) p2
    ∙ ap (λ t. q ++ (a ++ t)) p3
    ∙ ap (λ t. q ++ (a ++ 32 ∷ (s.name.0 ++ t))) p4
    ∙ ap (λ t. q ++ (a ++ 32 ∷ (s.name.0 ++ (codes " over" ++ t)))) p5
    ∙ ap (λ t. q ++ (a ++ 32 ∷ (s.name.0 ++ (codes " over" ++ (number_part s.size.0 ++ t))))) p6
    ∙ ap (λ t. q ++ (a ++ 32 ∷ (s.name.0 ++ (codes " over" ++ (number_part s.size.0 ++ (comparison_part s.comparison.0 ++ t)))))) p7
    ∙ sym (condition_parts read s.number.1))

joint_spelled : (joint : Joint) (bytes : List ℕ) (r : Unit {0} × List ℕ) → take_as (keyword (joint_word joint)) bytes ≡ Some r → bytes ≡ joint_part joint ++ r.1
joint_spelled joints.And bytes r e = keyword_part (codes "and") bytes r e
joint_spelled joints.Or bytes r e = keyword_part (codes "or") bytes r e

joined_spelled : (joint : Joint) (bytes : List ℕ) (c : Condition × List ℕ) → HasNoMinusZero bytes → take_joined joint bytes ≡ Some c → bytes ≡ joint_part joint ++ (condition_text c.0 ++ c.1)
unfolding take_joined
joined_spelled joint bytes c none e =
    let (word, is, next) = both_steps (take_as (keyword (joint_word joint)) bytes) (λ (w : Unit {0} × List ℕ). take_condition w.1) c e in
    let p : bytes ≡ joint_part joint ++ word.1 = joint_spelled joint bytes word is in
    p ∙ ap (λ t. joint_part joint ++ t) (condition_spelled word.1 c (still_none (joint_part joint) word.1 bytes p none) next)

-- conditions behind others, by how they are written
record Joined (joint : Joint) (done : List Condition) (bytes : List ℕ) (cs : List Condition) : Type 0 where
  pub more : List Condition
  pub are : cs ≡ done ++ more
  pub is : bytes ≡ joined_text joint more

collect_spelled : (n : ℕ) (joint : Joint) (done : List Condition) (bytes : List ℕ) (cs : List Condition) → HasNoMinusZero bytes → collect n joint done bytes ≡ Some cs → Joined joint done bytes cs
unfolding collect joined_text
collect_spelled n joint done [] cs none e = record { more = []; are = sym (append-nil done ∙ same_some done cs e); is = refl }
collect_spelled zero joint done (b ∷ bs) cs none e = absurd (none_some cs e)
collect_spelled (suc n) joint done (b ∷ bs) cs none e =
    let (next, is, left) = both_steps (take_joined joint (b ∷ bs)) (λ (m : Condition × List ℕ). collect n joint (done ++ m.0 ∷ []) m.1) cs e in
    let p : b ∷ bs ≡ joint_part joint ++ (condition_text next.0 ++ next.1) = joined_spelled joint (b ∷ bs) next none is in
    let front : b ∷ bs ≡ (joint_part joint ++ condition_text next.0) ++ next.1 = p ∙ sym (append_assoc (joint_part joint) (condition_text next.0) next.1) in
    let later = collect_spelled n joint (done ++ next.0 ∷ []) next.1 cs (still_none (joint_part joint ++ condition_text next.0) next.1 (b ∷ bs) front none) left in
    record {
      more = next.0 ∷ later.more;
      are = later.are ∙ append_assoc done (next.0 ∷ []) later.more;
      is = p ∙ ap (λ t. joint_part joint ++ (condition_text next.0 ++ t)) later.is;
    }

-- A rule

line_spelled : (bytes : List ℕ) (rule : Rule) → HasNoMinusZero bytes → rule_line bytes ≡ Some rule → bytes ≡ 32 ∷ (rule.label ++ (codes " when" ++ conditions_text rule.joint rule.conditions))
line_spelled bytes rule none e =
    let s = line_steps bytes rule e in
    let p1 : bytes ≡ 32 ∷ (s.label.0 ++ s.label.1) = label_part bytes s.label s.label_is in
    let p2 : s.label.1 ≡ codes " when" ++ s.when.1 = keyword_part (codes "when") s.label.1 s.when s.when_is in
    let n1 : HasNoMinusZero s.label.1 = still_none (32 ∷ s.label.0) s.label.1 bytes p1 none in
    let n2 : HasNoMinusZero s.when.1 = still_none (codes " when") s.when.1 s.label.1 p2 n1 in
    let p3 : s.when.1 ≡ condition_text s.first.0 ++ s.first.1 = condition_spelled s.when.1 s.first n2 s.first_is in
    let n3 : HasNoMinusZero s.first.1 = still_none (condition_text s.first.0) s.first.1 s.when.1 p3 n2 in
    let joint : Joint = joint_at s.first.1 in
    let rest = collect_spelled 7 joint (s.first.0 ∷ []) s.first.1 s.conditions n3 s.conditions_are in
    subst (λ (r : Rule). bytes ≡ 32 ∷ (r.label ++ (codes " when" ++ conditions_text r.joint r.conditions))) s.is
    (p1
    ∙ ap (λ t. 32 ∷ (s.label.0 ++ t)) p2
    ∙ ap (λ t. 32 ∷ (s.label.0 ++ (codes " when" ++ t))) (p3 ∙ ap (λ t. condition_text s.first.0 ++ t) rest.is ∙ ap (conditions_text joint) (sym rest.are)))

pub rules_spelled : SpellingIsOne
unfolding rule_of rule_text first_word behind_word
rules_spelled line rule none e =
    let t = passed_to (bytes_eq (first_word line) (codes "rule")) (rule_line (behind_word line)) rule e in
    let word : first_word line ≡ codes "rule" = (bytes_eq-Decides (first_word line) (codes "rule")).0 t.0 in
    let whole : line ≡ codes "rule" ++ behind_word line = sym (take-append-drop (word_length line) line) ∙ ap (λ w. w ++ behind_word line) word in
    whole ∙ ap (λ bs. codes "rule" ++ bs) (line_spelled (behind_word line) rule (still_none (codes "rule") (behind_word line) line whole none) t.1)
