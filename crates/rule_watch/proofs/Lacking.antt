-- A row may lack the values of names that no rule speaks of.
use Rattle.std.proofs.Common.{◌≡◌, ℕ, ℤ, zero, suc, ◌-◌, Bool, true, false, cond, ◌&&◌, ◌||◌, List, [], ◌∷◌, ◌++◌, length, map, Some, refl, sym, ap, ap₂, subst, ◌∙◌}
use Rattle.std.specs.Prelude.{bytes_eq, slice_get}
use Rattle.std.specs.List.{AllByRecursion, filter, list_any}
use Rattle.std.specs.Ordering.{int_eq}
use Rattle.std.proofs.lemmas.Bool.{or_right}
use Rattle.rule_watch.specs.declared.rule.Condition.{Condition}
use Rattle.rule_watch.specs.declared.rule.Rule.{Rule}
use Rattle.rule_watch.specs.Holding.{Holds, condition_holds, passes, quantified, rule_holds}
use Rattle.rule_watch.specs.Laws.{RowsMayLackOthers}
use Rattle.rule_watch.specs.Rows.{Entry, Row, instances_in, is_in, is_of, values_in, values_of, window}
use Rattle.rule_watch.specs.Rules.{is_watched}
use Rattle.rule_watch.specs.Shown.{KeptRule, Shows, kept_of, rules_of}
use Rattle.rule_watch.specs.Windows.{Recent, last}
use Rattle.rule_watch.proofs.GroupSteps.{joined_alike}
use Rattle.rule_watch.proofs.Rows.{values_of_more}
use Rattle.rule_watch.proofs.Watching.{at_end, holds_same, some_same, whole}

-- ---- what is left of a list

module _ {A : Type 0} (p w : A → Bool) (inside : (x : A) → p x ≡ true → w x ≡ true) where
  filter_within : (xs : List A) → filter p (filter w xs) ≡ filter p xs
  filter_within [] = refl
  filter_within (x ∷ xs) = by (p x) refl (w x) refl (filter_within xs)
    where
      by : (a : Bool) → p x ≡ a → (b : Bool) → w x ≡ b → filter p (filter w xs) ≡ filter p xs → filter p (cond (w x) (x ∷ filter w xs) (filter w xs)) ≡ cond (p x) (x ∷ filter p xs) (filter p xs)
      by true h b e rest =
          ap (λ t. filter p (cond t (x ∷ filter w xs) (filter w xs))) (inside x h)
          ∙ ap (λ t. cond t (x ∷ filter p (filter w xs)) (filter p (filter w xs))) h
          ∙ ap (λ xs. x ∷ xs) rest
          ∙ ap (λ t. cond t (x ∷ filter p xs) (filter p xs)) (sym h)
      by false h true e rest =
          ap (λ t. filter p (cond t (x ∷ filter w xs) (filter w xs))) e
          ∙ ap (λ t. cond t (x ∷ filter p (filter w xs)) (filter p (filter w xs))) h
          ∙ rest
          ∙ ap (λ t. cond t (x ∷ filter p xs) (filter p xs)) (sym h)
      by false h false e rest =
          ap (λ t. filter p (cond t (x ∷ filter w xs) (filter w xs))) e
          ∙ rest
          ∙ ap (λ t. cond t (x ∷ filter p xs) (filter p xs)) (sym h)

-- ---- the names of conditions are watched

abbrev Covers : (List ℕ → Bool) → Condition → Type 0
Covers watched c = (name : List ℕ) → bytes_eq name c.name ≡ true → watched name ≡ true

abbrev CoversAll : (List ℕ → Bool) → List Rule → Type 0
CoversAll watched rules = AllByRecursion (λ rule. AllByRecursion (Covers watched) rule.conditions) rules

first_of_both : (a b : Bool) → (a && b) ≡ true → a ≡ true
first_of_both true b h = refl
first_of_both false b h = h

or_left : (a b : Bool) → a ≡ true → (a || b) ≡ true
or_left a b h = ap (λ x. x || b) h

covers_conditions : (watched : List ℕ → Bool) (conditions : List Condition) → ((name : List ℕ) → list_any (λ c. bytes_eq name c.name) conditions ≡ true → watched name ≡ true) → AllByRecursion (Covers watched) conditions
covers_conditions watched [] all = tt
covers_conditions watched (c ∷ cs) all =
    (λ name h. all name (or_left (bytes_eq name c.name) (list_any (λ d. bytes_eq name d.name) cs) h), covers_conditions watched cs (λ name h. all name (or_right (bytes_eq name c.name) (list_any (λ d. bytes_eq name d.name) cs) h)))

covers_rules : (watched : List ℕ → Bool) (rules : List Rule) → ((name : List ℕ) → is_watched rules name ≡ true → watched name ≡ true) → CoversAll watched rules
covers_rules watched [] all = tt
covers_rules watched (rule ∷ rules) all = (
  covers_conditions watched rule.conditions (λ name h. all name (or_left (list_any (λ c. bytes_eq name c.name) rule.conditions) (is_watched rules name) h)),
  covers_rules watched rules (λ name h. all name (or_right (list_any (λ c. bytes_eq name c.name) rule.conditions) (is_watched rules name) h)),
)

covered_at : (watched : List ℕ → Bool) (rules : List Rule) (n : ℕ) (rule : Rule) → CoversAll watched rules → slice_get rules n ≡ Some rule → AllByRecursion (Covers watched) rule.conditions
covered_at watched [] n rule all is = cc
covered_at watched (r ∷ rs) zero rule all is = let same : r ≡ rule = cc in subst (λ (x : Rule). AllByRecursion (Covers watched) x.conditions) same all.0
covered_at watched (r ∷ rs) (suc n) rule all is = covered_at watched rs n rule all.1 is

-- ---- behind the same rows

module _ (watched : List ℕ → Bool) (rows : List Row) (row : Row) where
  abbrev less : Row
  less = filter (λ (e : Entry). watched e.0) row

  values_same : (c : Condition) → Covers watched c → (i : ℤ) → values_in c.name i less ≡ values_in c.name i row
  values_same c covers i =
      ap (map (λ (e : Entry). e.2)) (filter_within (is_in c.name i) (λ (e : Entry). watched e.0) (λ e h. covers e.0 (first_of_both (bytes_eq e.0 c.name) (int_eq e.1 i) h)) row)

  instances_same : (c : Condition) → Covers watched c → instances_in c.name less ≡ instances_in c.name row
  instances_same c covers = ap (map (λ (e : Entry). e.1)) (filter_within (is_of c.name) (λ (e : Entry). watched e.0) (λ e h. covers e.0 h) row)

  window_same : (c : Condition) → Covers watched c → (i : ℤ) → window (rows ++ less ∷ []) c i ≡ window (rows ++ row ∷ []) c i
  window_same c covers i =
      ap (last c.size) (values_of_more c.name i rows less ∙ ap (λ vs. values_of c.name i rows ++ vs) (values_same c covers i) ∙ sym (values_of_more c.name i rows row))

  holds_alike : (c : Condition) → Covers watched c → condition_holds (window (rows ++ less ∷ []) c) less c ≡ condition_holds (window (rows ++ row ∷ []) c) row c
  holds_alike c covers =
      holds_same (window (rows ++ less ∷ []) c) (window (rows ++ row ∷ []) c) less c (window_same c covers)
      ∙ ap (quantified c.quantifier (λ i. passes c (window (rows ++ row ∷ []) c i))) (instances_same c covers)

  all_conditions : (cs : List Condition) → AllByRecursion (Covers watched) cs → AllByRecursion (λ c. condition_holds (window (rows ++ less ∷ []) c) less c ≡ condition_holds (window (rows ++ row ∷ []) c) row c) cs
  all_conditions [] all = tt
  all_conditions (c ∷ cs) all = (holds_alike c all.0, all_conditions cs all.1)

  rule_alike : (rule : Rule) → AllByRecursion (Covers watched) rule.conditions → rule_holds (rows ++ less ∷ []) less rule ≡ rule_holds (rows ++ row ∷ []) row rule
  rule_alike rule covers =
      joined_alike (λ c. condition_holds (window (rows ++ less ∷ []) c) less c) (λ c. condition_holds (window (rows ++ row ∷ []) c) row c) rule.joint rule.conditions (all_conditions rule.conditions covers)

  -- what is shown

  conditions_shown : (cs : List (Condition × List (ℤ × Recent))) → AllByRecursion (Covers watched) (map (λ c. c.0) cs) → AllByRecursion (λ c. (i : ℤ) → kept_of c.1 i ≡ window (rows ++ less ∷ []) c.0 i) cs
      → AllByRecursion (λ c. (i : ℤ) → kept_of c.1 i ≡ window (rows ++ row ∷ []) c.0 i) cs
  conditions_shown [] covers shown = tt
  conditions_shown (c ∷ cs) covers shown = (λ i. shown.0 i ∙ window_same c.0 covers.0 i, conditions_shown cs covers.1 shown.1)

  rules_shown : (watch : List KeptRule) → CoversAll watched (rules_of watch) → Shows watch (rows ++ less ∷ []) → Shows watch (rows ++ row ∷ [])
  rules_shown [] covers shown = tt
  rules_shown (rule ∷ rules) covers shown = (conditions_shown rule.conditions covers.0 shown.0, rules_shown rules covers.1 shown.1)

-- the rule holds at the last row, whichever of two rows this is
other_row : (rules : List Rule) (rows : List Row) (a b : Row) (n : ℕ) → ((rule : Rule) → slice_get rules n ≡ Some rule → rule_holds (rows ++ a ∷ []) a rule ≡ rule_holds (rows ++ b ∷ []) b rule)
    → Holds rules (rows ++ a ∷ []) (length (rows ++ a ∷ []) - 1) n → Holds rules (rows ++ b ∷ []) (length (rows ++ b ∷ []) - 1) n
other_row rules rows a b n alike h =
    let same : h.row ≡ a = some_same h.row a (sym h.there ∙ at_end rows a) in
    record {
      row = b;
      rule = h.rule;
      there = at_end rows b;
      numbered = h.numbered;
      holds = ap (λ front. rule_holds front b h.rule) (whole rows b)
          ∙ sym (alike h.rule h.numbered)
          ∙ ap₂ (λ front last. rule_holds front last h.rule) (sym (whole rows a)) (sym same)
          ∙ h.holds;
    }

pub rows_may_lack : RowsMayLackOthers
rows_may_lack old new row numbers same answers rows shows =
    let rules : List Rule = rules_of old in
    let watched : List ℕ → Bool = is_watched rules in
    let covers : CoversAll watched rules = covers_rules watched rules (λ name h. h) in
    let (shown, tells) = answers rows shows in
    let alike : (n : ℕ) (rule : Rule) → slice_get rules n ≡ Some rule → rule_holds (rows ++ less watched rows row ∷ []) (less watched rows row) rule ≡ rule_holds (rows ++ row ∷ []) row rule =
    λ n rule is. rule_alike watched rows row rule (covered_at watched rules n rule covers is) in (
      rules_shown watched rows row new (subst (CoversAll watched) (sym same) covers) shown,
      record {
        ascending = tells.ascending;
        exactly = λ n. (
          λ has. other_row rules rows (less watched rows row) row n (alike n) ((tells.exactly n).0 has),
          λ holds. (tells.exactly n).1 (other_row rules rows row (less watched rows row) n (λ rule is. sym (alike n rule is)) holds),
        );
      },
    )
