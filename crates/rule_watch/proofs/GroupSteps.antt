-- What rules take of the groups of a row, and what holds by them, is what they take of the row.
use Rattle.std.proofs.Common.{◌≡◌, ℕ, ◌+◌, Bool, true, false, cond, ◌&&◌, ◌||◌, List, [], ◌∷◌, ◌++◌, map, get_or, refl, sym, ap, ap₂, ◌∙◌}
use Rattle.std.specs.Prelude.{bytes_eq}
use Rattle.std.specs.List.{All, AllByRecursion, list_any, list_all}
use Rattle.std.proofs.lemmas.List.{map-append}
use Rattle.std.proofs.lemmas.List.Elements.{recursion_from_All}
use Rattle.std.proofs.lemmas.List.Folds.{list_any-append}
use Rattle.rule_watch.specs.declared.rule.Condition.{Condition}
use Rattle.rule_watch.specs.declared.rule.Joint.{Joint}
use Rattle.rule_watch.specs.declared.rule.Joint.TheVariants as joints
use Rattle.rule_watch.specs.declared.rule.Rule.{Rule}
use Rattle.rule_watch.specs.declared.watched.WatchedCondition.{WatchedCondition}
use Rattle.rule_watch.specs.declared.watched.WatchedRule.{WatchedRule}
use Rattle.rule_watch.specs.Groups.{AreGroups, Group, KeepsNumbers, group_at, numbers_of}
use Rattle.rule_watch.specs.Holding.{condition_holds, joined, passes}
use Rattle.rule_watch.specs.Rows.{Row}
use Rattle.rule_watch.specs.Rules.{is_watched}
use Rattle.rule_watch.specs.Watched.{EachTo, IsKnown, IsKnownRule, Takes, TakesGroup, Turns, group_holds, groups_hold, kept, places_from, rule_of, watched_holds}
use Rattle.rule_watch.specs.Windows.{last}
use Rattle.rule_watch.proofs.GroupValues.{any_map, numbers_as, quantified_as}

module _ {X : Type 0} (s t : X → Bool) where
  any_alike : (xs : List X) → AllByRecursion (λ x. s x ≡ t x) xs → list_any s xs ≡ list_any t xs
  any_alike [] all = refl
  any_alike (x ∷ xs) all = ap₂ (λ a b. a || b) all.0 (any_alike xs all.1)

  all_alike : (xs : List X) → AllByRecursion (λ x. s x ≡ t x) xs → list_all s xs ≡ list_all t xs
  all_alike [] all = refl
  all_alike (x ∷ xs) all = ap₂ (λ a b. a && b) all.0 (all_alike xs all.1)

  pub joined_alike : (j : Joint) (xs : List X) → AllByRecursion (λ x. s x ≡ t x) xs → joined j s xs ≡ joined j t xs
  joined_alike joints.And xs all = all_alike xs all
  joined_alike joints.Or xs all = any_alike xs all

  places_alike : (n : ℕ) (xs : List X) → AllByRecursion (λ x. s x ≡ t x) xs → places_from n s xs ≡ places_from n t xs
  places_alike n [] all = refl
  places_alike n (x ∷ xs) all = ap₂ (λ b ms. cond b (n ∷ ms) ms) all.0 (places_alike (n + 1) xs all.1)

module _ (names : List (List ℕ)) (row : Row) (groups : List Group) (are : AreGroups names row groups) where
  takes_as : (old new : WatchedCondition) → IsKnown names old → TakesGroup groups old new → Takes row old new
  takes_as old new known takes = record {
    condition = takes.condition;
    number = takes.number;
    values = λ i.
        takes.values i
        ∙ ap (λ vs. last old.condition.size (kept old.windows i ++ vs)) (ap (numbers_of i) (are old.condition.name old.number known) ∙ numbers_as old.condition.name i row);
    watched = takes.watched;
  }

  turns_as : (old new : WatchedRule) → IsKnownRule names old → Turns (TakesGroup groups) old new → Turns (Takes row) old new
  turns_as old new known turns = record {
    label = turns.label;
    joint = turns.joint;
    count = turns.count;
    each = λ k d below. takes_as (get_or old.conditions.items k d) (get_or new.conditions.items k d) (known k d below) (turns.each k d below);
  }

  pub rows_as : (old new : List WatchedRule) → All (IsKnownRule names) old → EachTo (Turns (TakesGroup groups)) old new → EachTo (Turns (Takes row)) old new
  rows_as old new known each k d below = turns_as (get_or old k d) (get_or new k d) (known k d below) (each k d below)

  holds_as : (w : WatchedCondition) → IsKnown names w → group_holds (kept w.windows) (group_at groups w.number) w.condition ≡ condition_holds (kept w.windows) row w.condition
  holds_as w known =
      ap (λ (g : Group). group_holds (kept w.windows) g w.condition) (are w.condition.name w.number known)
      ∙ quantified_as (λ i. passes w.condition (kept w.windows i)) w.condition.quantifier w.condition.name row

  rule_as : (rule : WatchedRule) → IsKnownRule names rule → groups_hold groups rule ≡ watched_holds row rule
  rule_as rule known =
      joined_alike (λ w. group_holds (kept w.windows) (group_at groups w.number) w.condition) (λ w. condition_holds (kept w.windows) row w.condition) rule.joint rule.conditions.items
      (recursion_from_All (λ (w : WatchedCondition). group_holds (kept w.windows) (group_at groups w.number) w.condition ≡ condition_holds (kept w.windows) row w.condition) rule.conditions.items
      (λ k d below. holds_as (get_or rule.conditions.items k d) (known k d below)))

  -- The numbers of the rules that hold
  pub places_as : (rules : List WatchedRule) → All (IsKnownRule names) rules → places_from 0 (groups_hold groups) rules ≡ places_from 0 (watched_holds row) rules
  places_as rules known =
      places_alike (groups_hold groups) (watched_holds row) 0 rules
      (recursion_from_All (λ (rule : WatchedRule). groups_hold groups rule ≡ watched_holds row rule) rules (λ k d below. rule_as (get_or rules k d) (known k d below)))

-- ---- names of conditions and rules, one after another

pub known_later : (names later : List (List ℕ)) → KeepsNumbers names later → (made : List WatchedCondition) → All (IsKnown names) made → All (IsKnown later) made
known_later names later keeps made known k d below =
    let w : WatchedCondition = get_or made k d in
    keeps w.condition.name w.number (known k d below)

pub known_rules_later : (names later : List (List ℕ)) → KeepsNumbers names later → (made : List WatchedRule) → All (IsKnownRule names) made → All (IsKnownRule later) made
known_rules_later names later keeps made known k d below = let rule : WatchedRule = get_or made k d in known_later names later keeps rule.conditions.items (known k d below)

or_nothing : (b : Bool) → b ≡ (b || false)
or_nothing true = refl
or_nothing false = refl

or_behind : (a b c : Bool) → ((a || b) || c) ≡ (a || (b || (c || false)))
or_behind true b c = refl
or_behind false true c = refl
or_behind false false c = or_nothing c

pub named_more : (name : List ℕ) (first names later : Bool) (made : List WatchedCondition) (w : WatchedCondition) → names ≡ (first || list_any (λ x. bytes_eq name x.condition.name) made)
    → later ≡ (names || bytes_eq name w.condition.name) → later ≡ (first || list_any (λ x. bytes_eq name x.condition.name) (made ++ w ∷ []))
named_more name first names later made w before is =
    is
    ∙ ap (λ b. b || bytes_eq name w.condition.name) before
    ∙ or_behind first (list_any (λ x. bytes_eq name x.condition.name) made) (bytes_eq name w.condition.name)
    ∙ ap (λ b. first || b) (sym (list_any-append (λ x. bytes_eq name x.condition.name) made (w ∷ [])))

pub named_all : (name : List ℕ) (made : List WatchedCondition) (conditions : List Condition) → map (λ w. w.condition) made ≡ conditions
    → list_any (λ w. bytes_eq name w.condition.name) made ≡ list_any (λ c. bytes_eq name c.name) conditions
named_all name made conditions is = any_map (λ (w : WatchedCondition). w.condition) (λ c. bytes_eq name c.name) made ∙ ap (list_any (λ c. bytes_eq name c.name)) is

pub named_rules_more : (name : List ℕ) (names later : Bool) (made : List WatchedRule) (rule : WatchedRule) (read : Rule) → rule_of rule ≡ read → names ≡ is_watched (map rule_of made) name
    → later ≡ (names || list_any (λ c. bytes_eq name c.name) read.conditions) → later ≡ is_watched (map rule_of (made ++ rule ∷ [])) name
named_rules_more name names later made rule read same before is =
    is
    ∙ ap (λ b. b || list_any (λ c. bytes_eq name c.name) read.conditions) before
    ∙ ap (λ b. is_watched (map rule_of made) name || b) (or_nothing (list_any (λ c. bytes_eq name c.name) read.conditions))
    ∙ ap (λ (r : Rule). is_watched (map rule_of made) name || (list_any (λ c. bytes_eq name c.name) r.conditions || false)) (sym same)
    ∙ sym (list_any-append (λ (r : Rule). list_any (λ c. bytes_eq name c.name) r.conditions) (map rule_of made) (rule_of rule ∷ []))
    ∙ ap (λ (rs : List Rule). is_watched rs name) (sym (map-append rule_of made (rule ∷ [])))
