-- What is kept of all streams shows the rows so far, before a row and behind it; and what holds for the windows that are
-- kept, holds for those rows.
use Rattle.std.proofs.Common.{◌≡◌, ℕ, ℤ, zero, suc, ◌+◌, ◌-◌, ◌<◌, ◌≤◌, Bool, cond, ◌&&◌, ◌||◌, List, [], ◌∷◌, ◌++◌, length, map, take, get_or, ltb, Some, Result, Ok, Err, refl, sym, ap, ap₂, subst, ◌∙◌, arith, length-append}
use Rattle.std.specs.Prelude.{bytes_eq, position, slice_get, OnErr, OnOk}
use Rattle.std.specs.Option.{option_map}
use Rattle.std.specs.List.{All, AllByRecursion, Contains, list_any, list_all}
use Rattle.std.specs.List.Sorted.{IsStrictlyIncreasing}
use Rattle.std.proofs.lemmas.List.{take_all, drop_all}
use Rattle.std.proofs.lemmas.List.Elements.{recursion_from_All, All-from_recursion}
use Rattle.rule_watch.specs.declared.rule.Quantifier.{Quantifier}
use Rattle.rule_watch.specs.declared.rule.Quantifier.TheVariants as quantifiers
use Rattle.rule_watch.specs.declared.rule.Joint.{Joint}
use Rattle.rule_watch.specs.declared.rule.Joint.TheVariants as joints
use Rattle.rule_watch.specs.declared.rule.Condition.{Condition}
use Rattle.rule_watch.specs.declared.rule.Rule.{Rule}
use Rattle.rule_watch.specs.declared.watched.WatchedCondition.{WatchedCondition}
use Rattle.rule_watch.specs.declared.watched.WatchedRule.{WatchedRule}
use Rattle.rule_watch.specs.Holding.{Tells, passes, quantified, condition_holds, joined, rule_holds}
use Rattle.rule_watch.specs.Rows.{Row, values_in, values_of, instances_in, window}
use Rattle.rule_watch.specs.Rules.{is_watched}
use Rattle.rule_watch.specs.Shown.{Answers, IsShown, KeptRule, Shows, kept_of, rule_kept, rules_of, values_kept}
use Rattle.rule_watch.specs.Watched.{AreNames, AreWatched, EachTo, IsFresh, IsFreshRule, IsKnownRule, IsWatched, IsWatchedRule, Serves, ShowsRule, Stays, Takes, Turns, kept, kept_rule, kept_rules, places_from, rule_of, watched_holds}
use Rattle.rule_watch.specs.Windows.{Recent, last}
use Rattle.rule_watch.proofs.Windows.{last_last}
use Rattle.rule_watch.proofs.Rows.{values_of_more}
use Rattle.rule_watch.proofs.Places.{places_rise, passes_there, there_passes}

-- Lists at the same places

module _ {X : Type 0} (R : X → X → Type 0) where
  pub each_tail : (x y : X) (xs ys : List X) → EachTo R (x ∷ xs) (y ∷ ys) → EachTo R xs ys
  each_tail x y xs ys each k d below = each (suc k) d (omega arith)

module _ {X Y : Type 0} (f : X → Y) (R : X → X → Type 0) (same : (x y : X) → R x y → f y ≡ f x) where
  pub maps_same : (olds news : List X) → length news ≡ length olds → EachTo R olds news → map f news ≡ map f olds
  maps_same [] [] long each = refl
  maps_same [] (y ∷ ys) long each = absurd (omega arith)
  maps_same (x ∷ xs) [] long each = absurd (omega arith)
  maps_same (x ∷ xs) (y ∷ ys) long each =
      ap₂ (λ z zs. z ∷ zs) (same x y (each 0 x (omega arith))) (maps_same xs ys (omega arith) (each_tail R x y xs ys each))

-- A condition

module _ (rows : List Row) (row : Row) (old mid new : WatchedCondition) (stays : Stays old mid) (takes : Takes row mid new) where
  pub same_condition : new.condition ≡ old.condition
  same_condition = takes.condition ∙ stays.condition

  pub shows_more : ((i : ℤ) → kept old.windows i ≡ window rows old.condition i) → (i : ℤ) → kept new.windows i ≡ window (rows ++ row ∷ []) new.condition i
  shows_more shows i =
      takes.values i
      ∙ ap₂ (λ (c : Condition) vs. last c.size (vs ++ values_in c.name i row)) stays.condition (stays.values i ∙ shows i)
      ∙ last_last old.condition.size (values_of old.condition.name i rows) (values_in old.condition.name i row)
      ∙ ap (last old.condition.size) (sym (values_of_more old.condition.name i rows row))
      ∙ ap (λ (c : Condition). window (rows ++ row ∷ []) c i) (sym same_condition)

-- What holds

any_same : {X : Type 0} (s t : X → Bool) → ((x : X) → s x ≡ t x) → (xs : List X) → list_any s xs ≡ list_any t xs
any_same s t same [] = refl
any_same s t same (x ∷ xs) = ap₂ (λ a b. a || b) (same x) (any_same s t same xs)

all_same : {X : Type 0} (s t : X → Bool) → ((x : X) → s x ≡ t x) → (xs : List X) → list_all s xs ≡ list_all t xs
all_same s t same [] = refl
all_same s t same (x ∷ xs) = ap₂ (λ a b. a && b) (same x) (all_same s t same xs)

pub quantified_same : (q : Quantifier) (s t : ℤ → Bool) → ((i : ℤ) → s i ≡ t i) → (xs : List ℤ) → quantified q s xs ≡ quantified q t xs
quantified_same quantifiers.Any s t same xs = any_same s t same xs
quantified_same quantifiers.All s t same xs = ap (λ b. ltb 0 (length xs) && b) (all_same s t same xs)

pub holds_same : (f g : ℤ → List ℤ) (row : Row) (c : Condition) → ((i : ℤ) → f i ≡ g i) → condition_holds f row c ≡ condition_holds g row c
holds_same f g row c same = quantified_same c.quantifier (λ i. passes c (f i)) (λ i. passes c (g i)) (λ i. ap (passes c) (same i)) (instances_in c.name row)

module _ {X Y : Type 0} (f : X → Y) (s : X → Bool) (t : Y → Bool) where
  any_map : (xs : List X) → AllByRecursion (λ x. s x ≡ t (f x)) xs → list_any s xs ≡ list_any t (map f xs)
  any_map [] all = refl
  any_map (x ∷ xs) all = ap₂ (λ a b. a || b) all.0 (any_map xs all.1)

  all_map : (xs : List X) → AllByRecursion (λ x. s x ≡ t (f x)) xs → list_all s xs ≡ list_all t (map f xs)
  all_map [] all = refl
  all_map (x ∷ xs) all = ap₂ (λ a b. a && b) all.0 (all_map xs all.1)

  joined_map : (j : Joint) (xs : List X) → AllByRecursion (λ x. s x ≡ t (f x)) xs → joined j s xs ≡ joined j t (map f xs)
  joined_map joints.And xs all = all_map xs all
  joined_map joints.Or xs all = any_map xs all

-- a rule whose windows show rows
pub rule_same : (rows : List Row) (row : Row) (rule : WatchedRule) → ShowsRule rows rule → watched_holds row rule ≡ rule_holds rows row (rule_of rule)
rule_same rows row rule shows =
    joined_map (λ w. w.condition) (λ w. condition_holds (kept w.windows) row w.condition) (λ c. condition_holds (window rows c) row c) rule.joint rule.conditions.items
    (recursion_from_All (λ (w : WatchedCondition). condition_holds (kept w.windows) row w.condition ≡ condition_holds (window rows w.condition) row w.condition) rule.conditions.items
    (λ k d below. holds_same (kept (get_or rule.conditions.items k d).windows) (window rows (get_or rule.conditions.items k d).condition) row (get_or rule.conditions.items k d).condition (shows k d below)))

-- A rule

module _ (rows : List Row) (row : Row) (old mid new : WatchedRule) (stays : Turns Stays old mid) (takes : Turns (Takes row) mid new) where
  both_count : length new.conditions.items ≡ length old.conditions.items
  both_count = takes.count ∙ stays.count

  pub shows_rule : ShowsRule rows old → ShowsRule (rows ++ row ∷ []) new
  shows_rule shows k d below =
      let first : k < length old.conditions.items = omega (arith, both_count) in
      let second : k < length mid.conditions.items = omega (arith, stays.count) in
      shows_more rows row (get_or old.conditions.items k d) (get_or mid.conditions.items k d) (get_or new.conditions.items k d) (stays.each k d first) (takes.each k d second) (shows k d first)

  pub same_rule : rule_of new ≡ rule_of old
  same_rule =
      let first = maps_same (λ (w : WatchedCondition). w.condition) Stays (λ x y s. s.condition) old.conditions.items mid.conditions.items stays.count stays.each in
      let second = maps_same (λ (w : WatchedCondition). w.condition) (Takes row) (λ x y t. t.condition) mid.conditions.items new.conditions.items takes.count takes.each in
      ap₂ (λ label (rest : Joint × List Condition). record { label = label; joint = rest.0; conditions = rest.1 }) (takes.label ∙ stays.label)
      (ap₂ (λ joint conditions. (joint, conditions)) (takes.joint ∙ stays.joint) (second ∙ first))

pub watched_stays : (old new : WatchedRule) → Turns Stays old new → IsWatchedRule new
watched_stays old new stays k d below = let first : k < length old.conditions.items = omega (arith, stays.count) in (stays.each k d first).watched

pub watched_takes : (row : Row) (old new : WatchedRule) → Turns (Takes row) old new → IsWatchedRule new
watched_takes row old new takes k d below = let first : k < length old.conditions.items = omega (arith, takes.count) in (takes.each k d first).watched

-- Where nothing was taken, the same rows are shown.
pub shows_still : (rows : List Row) (old new : WatchedRule) → Turns Stays old new → ShowsRule rows old → ShowsRule rows new
shows_still rows old new stays shows k d below =
    let first : k < length old.conditions.items = omega (arith, stays.count) in
    let s = stays.each k d first in
    λ i. s.values i ∙ shows k d first i ∙ ap (λ (c : Condition). window rows c i) (sym s.condition)

pub still_rule : (old new : WatchedRule) → Turns Stays old new → rule_of new ≡ rule_of old
still_rule old new stays =
    ap₂ (λ label (rest : Joint × List Condition). record { label = label; joint = rest.0; conditions = rest.1 }) stays.label
    (ap₂ (λ joint conditions. (joint, conditions)) stays.joint
    (maps_same (λ (w : WatchedCondition). w.condition) Stays (λ x y s. s.condition) old.conditions.items new.conditions.items stays.count stays.each))

-- A condition's name keeps its number.
module _ (R : WatchedCondition → WatchedCondition → Type 0) (condition : (x y : WatchedCondition) → R x y → y.condition ≡ x.condition) (number : (x y : WatchedCondition) → R x y → y.number ≡ x.number) where
  pub known_rule : (names : List (List ℕ)) (old new : WatchedRule) → Turns R old new → IsKnownRule names old → IsKnownRule names new
  known_rule names old new turns known k d below =
      let first : k < length old.conditions.items = omega (arith, turns.count) in
      let r = turns.each k d first in
      let x : WatchedCondition = get_or old.conditions.items k d in
      let y : WatchedCondition = get_or new.conditions.items k d in
      ap (λ (c : Condition). position (bytes_eq c.name) names) (condition x y r) ∙ known k d first ∙ ap Some (sym (number x y r))

-- All rules

module _ (row : Row) (old mid new : List WatchedRule) (first : length mid ≡ length old) (second : length new ≡ length mid)
    (stays : EachTo (Turns Stays) old mid) (takes : EachTo (Turns (Takes row)) mid new) where
  in_old : (k : ℕ) → k < length new → k < length old
  in_old k below = omega arith

  in_mid : (k : ℕ) → k < length new → k < length mid
  in_mid k below = omega arith

  pub shows_all : (rows : List Row) → All (ShowsRule rows) old → All (ShowsRule (rows ++ row ∷ [])) new
  shows_all rows shows k d below =
      shows_rule rows row (get_or old k d) (get_or mid k d) (get_or new k d) (stays k d (in_old k below)) (takes k d (in_mid k below)) (shows k d (in_old k below))

  pub same_rules : map rule_of new ≡ map rule_of old
  same_rules =
      maps_same rule_of (λ o n. rule_of n ≡ rule_of o) (λ o n e. e) old new (second ∙ first)
      (λ k d below. same_rule [] row (get_or old k d) (get_or mid k d) (get_or new k d) (stays k d below) (takes k d (let inside : k < length mid = omega arith in inside)))

  pub watched_all : (names : List (List ℕ)) → AreWatched names old → AreWatched names new
  watched_all names are = record {
    few = (let most : length new ≤ 64 = omega (arith, are.few) in most);
    each = λ k d below. watched_takes row (get_or mid k d) (get_or new k d) (takes k d (in_mid k below));
    known = λ k d below.
        known_rule (Takes row) (λ x y t. t.condition) (λ x y t. t.number) names (get_or mid k d) (get_or new k d) (takes k d (in_mid k below))
        (known_rule Stays (λ x y s. s.condition) (λ x y s. s.number) names (get_or old k d) (get_or mid k d) (stays k d (in_old k below)) (are.known k d (in_old k below)));
    named = λ name. are.named name ∙ ap (λ (rules : List Rule). is_watched rules name) (sym same_rules);
  }

module _ (old new : List WatchedRule) (first : length new ≡ length old) (stays : EachTo (Turns Stays) old new) where
  in_first : (k : ℕ) → k < length new → k < length old
  in_first k below = omega arith

  pub still_all : (rows : List Row) → All (ShowsRule rows) old → All (ShowsRule rows) new
  still_all rows shows k d below = shows_still rows (get_or old k d) (get_or new k d) (stays k d (in_first k below)) (shows k d (in_first k below))

  pub still_map : map rule_of new ≡ map rule_of old
  still_map = maps_same rule_of (λ o n. rule_of n ≡ rule_of o) (λ o n e. e) old new first (λ k d below. still_rule (get_or old k d) (get_or new k d) (stays k d below))

  pub still_watched : (names : List (List ℕ)) → AreWatched names old → AreWatched names new
  still_watched names are = record {
    few = (let most : length new ≤ 64 = omega (arith, are.few) in most);
    each = λ k d below. watched_stays (get_or old k d) (get_or new k d) (stays k d (in_first k below));
    known = λ k d below. known_rule Stays (λ x y s. s.condition) (λ x y s. s.number) names (get_or old k d) (get_or new k d) (stays k d (in_first k below)) (are.known k d (in_first k below));
    named = λ name. are.named name ∙ ap (λ (rules : List Rule). is_watched rules name) (sym still_map);
  }

-- The numbers

places_map : {X Y : Type 0} (f : X → Y) (s : X → Bool) (t : Y → Bool) (n : ℕ) (xs : List X) → AllByRecursion (λ x. s x ≡ t (f x)) xs → places_from n s xs ≡ places_from n t (map f xs)
places_map f s t n [] all = refl
places_map f s t n (x ∷ xs) all = ap₂ (λ b ms. cond b (n ∷ ms) ms) all.0 (places_map f s t (n + 1) xs all.1)

slice_at : (rows : List Row) (row : Row) → slice_get (rows ++ row ∷ []) (length rows) ≡ Some row
slice_at [] row = refl
slice_at (first ∷ rows) row = slice_at rows row

pub some_same : (x y : Row) → Some x ≡ Some y → x ≡ y
some_same x y e = cc

none_more : (n : ℕ) → 0 + n ≡ n
none_more n = omega arith

zero_more : (n k : ℕ) → n ≡ 0 + k → n ≡ k
zero_more n k e = omega arith

pub at_end : (rows : List Row) (row : Row) → slice_get (rows ++ row ∷ []) (length (rows ++ row ∷ []) - 1) ≡ Some row
at_end rows row =
    let long : length (rows ++ row ∷ []) ≡ length rows + 1 = length-append rows (row ∷ []) in
    let at : length (rows ++ row ∷ []) - 1 ≡ length rows = omega arith in
    ap (slice_get (rows ++ row ∷ [])) at ∙ slice_at rows row

pub whole : (rows : List Row) (row : Row) → take (length (rows ++ row ∷ []) - 1 + 1) (rows ++ row ∷ []) ≡ rows ++ row ∷ []
whole rows row = take_all (length (rows ++ row ∷ []) - 1 + 1) (rows ++ row ∷ []) (omega (arith, length-append rows (row ∷ [])))

pub tells : (rules : List Rule) (rows : List Row) (row : Row) (numbers : List ℕ) → numbers ≡ places_from 0 (rule_holds (rows ++ row ∷ []) row) rules → Tells rules (rows ++ row ∷ []) numbers
tells rules rows row numbers is = record {
  ascending = subst IsStrictlyIncreasing (sym is) (places_rise (rule_holds (rows ++ row ∷ []) row) 0 rules);
  exactly = λ n. (
    λ has. (let p = passes_there (rule_holds (rows ++ row ∷ []) row) 0 rules n (subst (λ ms. Contains ms n) is has) in
        record {
          row = row;
          rule = p.1;
          there = at_end rows row;
          numbered = ap (slice_get rules) (zero_more n p.0 p.2) ∙ p.3;
          holds = ap (λ front. rule_holds front row p.1) (whole rows row) ∙ p.4;
        }),
    λ h. (let same : h.row ≡ row = some_same h.row row (sym h.there ∙ at_end rows row) in
        subst (λ ms. Contains ms n) (sym is)
        (there_passes (rule_holds (rows ++ row ∷ []) row) 0 rules n n h.rule (sym (none_more n)) h.numbered
        (ap₂ (λ front last. rule_holds front last h.rule) (sym (whole rows row)) (sym same) ∙ h.holds))),
  );
}

-- As callers see it

map_map : {X Y Z : Type 0} (f : X → Y) (g : Y → Z) (xs : List X) → map g (map f xs) ≡ map (λ x. g (f x)) xs
map_map f g [] = refl
map_map f g (x ∷ xs) = ap (λ zs. g (f x) ∷ zs) (map_map f g xs)

abbrev condition_kept : WatchedCondition → Condition × List (ℤ × Recent)
condition_kept w = (w.condition, w.windows.entries)

rule_seen : (rule : WatchedRule) → rule_kept (kept_rule rule) ≡ rule_of rule
rule_seen rule = ap (λ conditions. record { label = rule.label; joint = rule.joint; conditions = conditions }) (map_map condition_kept (λ c. c.0) rule.conditions.items)

pub rules_seen : (rules : List WatchedRule) → rules_of (kept_rules rules) ≡ map rule_of rules
rules_seen [] = refl
rules_seen (rule ∷ rules) = ap₂ (λ r rs. r ∷ rs) (rule_seen rule) (rules_seen rules)

conditions_in : (rows : List Row) (ws : List WatchedCondition) → AllByRecursion (λ w. (i : ℤ) → kept w.windows i ≡ window rows w.condition i) ws
    → AllByRecursion (λ c. (i : ℤ) → kept_of c.1 i ≡ window rows c.0 i) (map condition_kept ws)
conditions_in rows [] all = tt
conditions_in rows (w ∷ ws) all = (all.0, conditions_in rows ws all.1)

conditions_out : (rows : List Row) (ws : List WatchedCondition) → AllByRecursion (λ c. (i : ℤ) → kept_of c.1 i ≡ window rows c.0 i) (map condition_kept ws)
    → AllByRecursion (λ w. (i : ℤ) → kept w.windows i ≡ window rows w.condition i) ws
conditions_out rows [] all = tt
conditions_out rows (w ∷ ws) all = (all.0, conditions_out rows ws all.1)

rules_in : (rows : List Row) (rules : List WatchedRule) → AllByRecursion (ShowsRule rows) rules → AllByRecursion (IsShown rows) (kept_rules rules)
rules_in rows [] all = tt
rules_in rows (rule ∷ rules) all =
    (conditions_in rows rule.conditions.items (recursion_from_All (λ (w : WatchedCondition). (i : ℤ) → kept w.windows i ≡ window rows w.condition i) rule.conditions.items all.0), rules_in rows rules all.1)

rules_out : (rows : List Row) (rules : List WatchedRule) → AllByRecursion (IsShown rows) (kept_rules rules) → AllByRecursion (ShowsRule rows) rules
rules_out rows [] all = tt
rules_out rows (rule ∷ rules) all =
    (All-from_recursion (λ (w : WatchedCondition). (i : ℤ) → kept w.windows i ≡ window rows w.condition i) rule.conditions.items (conditions_out rows rule.conditions.items all.0), rules_out rows rules all.1)

pub shows_in : (rows : List Row) (rules : List WatchedRule) → All (ShowsRule rows) rules → Shows (kept_rules rules) rows
shows_in rows rules all = rules_in rows rules (recursion_from_All (ShowsRule rows) rules all)

pub shows_out : (rows : List Row) (rules : List WatchedRule) → Shows (kept_rules rules) rows → All (ShowsRule rows) rules
shows_out rows rules all = All-from_recursion (ShowsRule rows) rules (rules_out rows rules all)

module _ (old new : List WatchedRule) (first : length new ≡ length old) (stays : EachTo (Turns Stays) old new) where
  -- A refusal changes nothing that is shown.
  pub still_shows : (rows : List Row) → Shows (kept_rules old) rows → Shows (kept_rules new) rows
  still_shows rows shows = shows_in rows new (still_all old new first stays rows (shows_out rows old shows))

  pub still_rules : rules_of (kept_rules new) ≡ rules_of (kept_rules old)
  still_rules = rules_seen new ∙ still_map old new first stays ∙ sym (rules_seen old)

module _ (row : Row) (old mid new : List WatchedRule) (first : length mid ≡ length old) (second : length new ≡ length mid)
    (stays : EachTo (Turns Stays) old mid) (takes : EachTo (Turns (Takes row)) mid new) where
  pub taken_rules : rules_of (kept_rules new) ≡ rules_of (kept_rules old)
  taken_rules = rules_seen new ∙ same_rules row old mid new first second stays takes ∙ sym (rules_seen old)

  -- The numbers that were put down are the answer.
  pub answers : (numbers : List ℕ) → numbers ≡ places_from 0 (watched_holds row) new → Answers (kept_rules old) row (kept_rules new) numbers
  answers numbers is rows shows =
      let later = shows_all row old mid new first second stays takes rows (shows_out rows old shows) in (
        shows_in (rows ++ row ∷ []) new later,
        tells (rules_of (kept_rules old)) rows row numbers
            (is
            ∙ places_map rule_of (watched_holds row) (rule_holds (rows ++ row ∷ []) row) 0 new
            (recursion_from_All (λ (r : WatchedRule). watched_holds row r ≡ rule_holds (rows ++ row ∷ []) row (rule_of r)) new (λ k d below. rule_same (rows ++ row ∷ []) row (get_or new k d) (later k d below)))
            ∙ ap (places_from 0 (rule_holds (rows ++ row ∷ []) row)) (same_rules row old mid new first second stays takes ∙ sym (rules_seen old))),
      )

-- The label of a rule
pub label_at : (rules : List WatchedRule) (n : ℕ) → option_map (λ (r : Rule). r.label) (slice_get (rules_of (kept_rules rules)) n) ≡ option_map (λ (w : WatchedRule). w.label) (slice_get rules n)
label_at [] n = refl
label_at (rule ∷ rules) zero = refl
label_at (rule ∷ rules) (suc n) = label_at rules n

-- Without a row

fresh_rule : (rule : WatchedRule) → IsFreshRule rule → ShowsRule [] rule
fresh_rule rule fresh k d below i = ap values_kept ((fresh k d below).1 i) ∙ sym (drop_all (0 - (get_or rule.conditions.items k d).condition.size) [] (omega arith))

fresh_condition : (w : WatchedCondition) → IsFresh w → IsWatched w
fresh_condition w fresh = (fresh.0, λ i. subst (Serves w.condition) (sym (fresh.1 i)) tt)

pub fresh_shows : (rules : List WatchedRule) → All IsFreshRule rules → Shows (kept_rules rules) []
fresh_shows rules fresh = shows_in [] rules (λ k d below. fresh_rule (get_or rules k d) (fresh k d below))

pub fresh_watched : (names : List (List ℕ)) (rules : List WatchedRule) → length rules ≤ 64 → All IsFreshRule rules → All (IsKnownRule names) rules → AreNames names (map rule_of rules) → AreWatched names rules
fresh_watched names rules few fresh known named = record {
  few = few;
  each = λ k d below j e inside. fresh_condition (get_or (get_or rules k d).conditions.items j e) (fresh k d below j e inside);
  known = known;
  named = named;
}

-- By equations

pub answers_same : (old old' : List KeptRule) (row row' : Row) (new new' : List KeptRule) (numbers numbers' : List ℕ) → old ≡ old' → row ≡ row' → new ≡ new' → numbers ≡ numbers' → Answers old row new numbers → Answers old' row' new' numbers'
answers_same old old' row row' new new' numbers numbers' a b c d h =
    subst (λ (o : List KeptRule). Answers o row' new' numbers') a
    (subst (λ (r : Row). Answers old r new' numbers') b
    (subst (λ (n : List KeptRule). Answers old row n numbers') c
    (subst (λ (ms : List ℕ). Answers old row new ms) d h)))

pub shows_same : (old old' new new' : List KeptRule) → old ≡ old' → new ≡ new' → ((rows : List Row) → Shows old rows → Shows new rows) → (rows : List Row) → Shows old' rows → Shows new' rows
shows_same old old' new new' a b h rows shows = subst (λ (n : List KeptRule). Shows n rows) b (h rows (subst (λ (o : List KeptRule). Shows o rows) (sym a) shows))

pub on_err : {T E : Type 0} (r : Result T E) {P : Type 0} → P → OnErr r P
on_err (Ok x) p = tt
on_err (Err e) p = p

pub on_ok : {T E : Type 0} (r : Result T E) {P Q : Type 0} → (P → Q) → OnOk r P → OnOk r Q
on_ok (Ok x) f p = f p
on_ok (Err e) f p = tt
