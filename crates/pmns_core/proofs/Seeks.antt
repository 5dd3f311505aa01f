-- The components below a front, where behind each one the next name is sought that hasn't it.
use Rattle.std.proofs.Common.{◌≡◌, ◌≢◌, ℕ, suc, ◌<◌, ◌≤◌, Bool, true, false, not, ◌&&◌, cond, if◌then◌else◌, List, [], ◌∷◌, ◌++◌, length, map, take, drop, fold, refl, sym, ap, ◌∙◌, subst, arith, append_assoc}
use Rattle.std.proofs.lemmas.List.{append-nil, take-append-drop}
use Rattle.std.proofs.lemmas.Slice.Eq.{slice_eq-Decides}
use Rattle.std.proofs.lemmas.List.Elements.{All-drop}
use Rattle.std.proofs.Math.Seq.{drop-append_seam}
use Rattle.std.specs.declared.cmp.Ordering.{Ordering}
use Rattle.std.specs.declared.cmp.Ordering.TheVariants.{Less, Equal, Greater}
use Rattle.std.specs.Ordering.{is_lt, is_le, match_ordering}
use Rattle.std.specs.Prelude.{nat_eq}
use Rattle.std.specs.Cmp.{unsigned_Decides}
use Rattle.std.specs.Cmp.Lexicographic.{pointwise}
use Rattle.std.specs.List.{starts_with, AllByRecursion}
use Rattle.std.specs.BTreeMap.{insert_entry}
use Rattle.std.specs.Global.{Vec}
use Rattle.pcp_base.specs.Texts.{IsText}
use Rattle.pmns_core.specs.Order.{byte_order, is_before}
use Rattle.pmns_core.specs.Pairs.{Pair, IsInOrder}
use Rattle.pmns_core.specs.Below.{behind, component, is_leaf, with_child}
use Rattle.pmns_core.proofs.Bytes.{le_itself, same_itself, starts_split, starts_join}
use Rattle.pmns_core.proofs.Tables.{pair, from_front}
use Rattle.pmns_core.proofs.Ranges.{taken}
use Rattle.pmns_core.proofs.Orders.{before_le, le_before, le_trans, not_le, before_from_not_le, behind_front, between_zero, between_points}
use Rattle.pmns_core.proofs.Components.{first_point, leaf_whole, node_split, node_again}

-- ---- ranges

-- from a later place on, of those from an earlier one on
pub from_later : (at later : List ℕ) (es : List (Vec ℕ × ℕ)) → is_le (byte_order at later) ≡ true → from_front later (from_front at es) ≡ from_front later es
from_later at later [] le = refl
from_later at later (e ∷ es) le = by (is_le (byte_order at e.0.items)) refl (is_le (byte_order later e.0.items)) refl (from_later at later es le)
  where
    by : (t : Bool) → is_le (byte_order at e.0.items) ≡ t → (u : Bool) → is_le (byte_order later e.0.items) ≡ u → from_front later (from_front at es) ≡ from_front later es
        → from_front later (cond (t && not false) (e ∷ from_front at es) (from_front at es)) ≡ cond (u && not false) (e ∷ from_front later es) (from_front later es)
    by true p true q again = ap (λ (b : Bool). cond (b && not false) (e ∷ from_front later (from_front at es)) (from_front later (from_front at es))) q ∙ ap (λ (xs : List (Vec ℕ × ℕ)). e ∷ xs) again
    by true p false q again = ap (λ (b : Bool). cond (b && not false) (e ∷ from_front later (from_front at es)) (from_front later (from_front at es))) q ∙ again
    by false p true q again = let both : true ≡ false = sym (le_trans at later e.0.items le q) ∙ p in cc both
    by false p false q again = again

at_most : (at : List ℕ) (es : List (Vec ℕ × ℕ)) → length (from_front at es) ≤ length es
at_most at [] = omega arith
at_most at (e ∷ es) = by (is_le (byte_order at e.0.items)) (at_most at es)
  where
    by : (t : Bool) → length (from_front at es) ≤ length es → length (cond (t && not false) (e ∷ from_front at es) (from_front at es)) ≤ length (e ∷ es)
    by true again = omega arith
    by false again = omega arith

-- none of them is before it
pub all_from : (at : List ℕ) (es : List (Vec ℕ × ℕ)) → AllByRecursion (λ (e : Vec ℕ × ℕ). is_le (byte_order at e.0.items) ≡ true) (from_front at es)
all_from at [] = tt
all_from at (e ∷ es) = by (is_le (byte_order at e.0.items)) refl (all_from at es)
  where
    by : (t : Bool) → is_le (byte_order at e.0.items) ≡ t → AllByRecursion (λ (x : Vec ℕ × ℕ). is_le (byte_order at x.0.items) ≡ true) (from_front at es)
        → AllByRecursion (λ (x : Vec ℕ × ℕ). is_le (byte_order at x.0.items) ≡ true) (cond (t && not false) (e ∷ from_front at es) (from_front at es))
    by true p again = (p, again)
    by false p again = again

rest_after : (x at : List ℕ) (es : List (Vec ℕ × ℕ)) → AllByRecursion (λ (q : Pair). is_before x q.0 ≡ true) (map pair es) → AllByRecursion (λ (q : Pair). is_before x q.0 ≡ true) (map pair (from_front at es))
rest_after x at [] all = tt
rest_after x at (e ∷ es) (here, all) = by (is_le (byte_order at e.0.items)) (rest_after x at es all)
  where
    by : (t : Bool) → AllByRecursion (λ (q : Pair). is_before x q.0 ≡ true) (map pair (from_front at es)) → AllByRecursion (λ (q : Pair). is_before x q.0 ≡ true) (map pair (cond (t && not false) (e ∷ from_front at es) (from_front at es)))
    by true again = (here, again)
    by false again = again

-- they are in order
pub order_from : (at : List ℕ) (es : List (Vec ℕ × ℕ)) → IsInOrder (map pair es) → IsInOrder (map pair (from_front at es))
order_from at [] order = tt
order_from at (e ∷ es) (all, text, order) = by (is_le (byte_order at e.0.items)) (rest_after e.0.items at es all) (order_from at es order)
  where
    by : (t : Bool) → AllByRecursion (λ (q : Pair). is_before e.0.items q.0 ≡ true) (map pair (from_front at es)) → IsInOrder (map pair (from_front at es)) → IsInOrder (map pair (cond (t && not false) (e ∷ from_front at es) (from_front at es)))
    by true after again = (after, text, again)
    by false after again = again

-- behind a name that isn't before the place, all are there
whole_from : (at x : List ℕ) (es : List (Vec ℕ × ℕ)) → is_le (byte_order at x) ≡ true → AllByRecursion (λ (q : Pair). is_before x q.0 ≡ true) (map pair es) → from_front at es ≡ es
whole_from at x [] le all = refl
whole_from at x (e ∷ es) le (here, all) =
    let kept : is_le (byte_order at e.0.items) ≡ true = le_trans at x e.0.items le (before_le x e.0.items here) in
    ap (λ (t : Bool). cond (t && not false) (e ∷ from_front at es) (from_front at es)) kept ∙ ap (λ (xs : List (Vec ℕ × ℕ)). e ∷ xs) (whole_from at x es le all)

-- ---- one component

-- it is inserted once
twice : (list : List (List ℕ × Bool)) (name : List ℕ) (leaf : Bool) → insert_entry byte_order (insert_entry byte_order list name leaf) name leaf ≡ insert_entry byte_order list name leaf
twice [] name leaf = ap (λ (o : Ordering). match_ordering o ((name, leaf) ∷ (name, leaf) ∷ []) ((name, leaf) ∷ []) ((name, leaf) ∷ insert_entry byte_order [] name leaf)) (same_itself name)
twice (c ∷ list) name leaf = by (byte_order name c.0) refl (twice list name leaf)
  where
    by : (o : Ordering) → byte_order name c.0 ≡ o → insert_entry byte_order (insert_entry byte_order list name leaf) name leaf ≡ insert_entry byte_order list name leaf
        → insert_entry byte_order (match_ordering o ((name, leaf) ∷ c ∷ list) ((c.0, leaf) ∷ list) (c ∷ insert_entry byte_order list name leaf)) name leaf
        ≡ match_ordering o ((name, leaf) ∷ c ∷ list) ((c.0, leaf) ∷ list) (c ∷ insert_entry byte_order list name leaf)
    by Less e again = ap (λ (o : Ordering). match_ordering o ((name, leaf) ∷ (name, leaf) ∷ c ∷ list) ((name, leaf) ∷ c ∷ list) ((name, leaf) ∷ insert_entry byte_order (c ∷ list) name leaf)) (same_itself name)
    by Equal e again = ap (λ (o : Ordering). match_ordering o ((name, leaf) ∷ (c.0, leaf) ∷ list) ((c.0, leaf) ∷ list) ((c.0, leaf) ∷ insert_entry byte_order list name leaf)) e
    by Greater e again =
        ap (λ (o : Ordering). match_ordering o ((name, leaf) ∷ c ∷ insert_entry byte_order list name leaf) ((c.0, leaf) ∷ insert_entry byte_order list name leaf) (c ∷ insert_entry byte_order (insert_entry byte_order list name leaf) name leaf)) e
        ∙ ap (λ (xs : List (List ℕ × Bool)). c ∷ xs) again

-- a name begins with a front, and has this component behind it
pub record HasPart (front rest x : List ℕ) : Type 0 where
  pub begins : starts_with nat_eq x front ≡ true
  pub part : component (drop (length front) x) ≡ component rest
  pub leaf : is_leaf (drop (length front) x) ≡ is_leaf rest

-- the name with the component is before the place behind it
pub before_behind : (front rest : List ℕ) → is_before (front ++ rest) (behind front rest) ≡ true
before_behind front rest = ap is_lt (behind_front front rest (component rest ++ (if is_leaf rest then 0 else 47) ∷ [])) ∙ by (is_leaf rest) refl
  where
    by : (t : Bool) → is_leaf rest ≡ t → is_before rest (component rest ++ (if t then 0 else 47) ∷ []) ≡ true
    by true e =
        ap (λ (front : List ℕ). is_before rest (front ++ 0 ∷ [])) (leaf_whole rest e)
        ∙ ap (λ (name : List ℕ). is_before name (rest ++ 0 ∷ [])) (sym (append-nil rest))
        ∙ ap is_lt (behind_front rest [] (0 ∷ []))
    by false e =
        ap (λ (name : List ℕ). is_before name (component rest ++ 47 ∷ [])) (node_split rest e)
        ∙ ap is_lt (behind_front (component rest) (46 ∷ drop (suc (first_point rest)) rest) (47 ∷ []))

-- a name between them has the component too
pub part_between : (front rest x : List ℕ) → is_before (front ++ rest) x ≡ true → is_before x (behind front rest) ≡ true → HasPart front rest x
part_between front rest x low high = by (is_leaf rest) refl high
  where
    by : (t : Bool) → is_leaf rest ≡ t → is_before x (front ++ (component rest ++ (if t then 0 else 47) ∷ [])) ≡ true → HasPart front rest x
    by true e high =
        let place : front ++ (component rest ++ 0 ∷ []) ≡ (front ++ rest) ++ 0 ∷ [] = ap (λ (part : List ℕ). front ++ (part ++ 0 ∷ [])) (leaf_whole rest e) ∙ sym (append_assoc front rest (0 ∷ [])) in
        let same : x ≡ front ++ rest = between_zero (front ++ rest) x (before_le (front ++ rest) x low) (subst (λ (n : List ℕ). is_before x n ≡ true) place high) in
        let itself : is_before x x ≡ true = subst (λ (n : List ℕ). is_before n x ≡ true) (sym same) low in
        let both : true ≡ false = sym itself ∙ ap is_lt (same_itself x) in
        cc both
    by false e high =
        let more : List ℕ = drop (suc (first_point rest)) rest in
        let base : List ℕ = front ++ component rest in
        let name : front ++ rest ≡ base ++ 46 ∷ more = ap (λ (n : List ℕ). front ++ n) (node_split rest e) ∙ sym (append_assoc front (component rest) (46 ∷ more)) in
        let low' : is_le (byte_order (base ++ 46 ∷ more) x) ≡ true = subst (λ (n : List ℕ). is_le (byte_order n x) ≡ true) name (before_le (front ++ rest) x low) in
        let high' : is_before x (base ++ 47 ∷ []) ≡ true = subst (λ (n : List ℕ). is_before x n ≡ true) (sym (append_assoc front (component rest) (47 ∷ []))) high in
        let le : is_le (byte_order base x) ≡ true = le_trans base (base ++ 46 ∷ more) x (le_itself base (46 ∷ more)) low' in
        let found = between_points base more x low' high' le in
        let split : x ≡ front ++ (component rest ++ 46 ∷ found.0) = found.1 ∙ append_assoc front (component rest) (46 ∷ found.0) in
        let back : drop (length front) x ≡ component rest ++ 46 ∷ found.0 = ap (drop (length front)) split ∙ drop-append_seam front (component rest ++ 46 ∷ found.0) in
        let again = node_again rest found.0 e in record {
          begins = starts_join x front (component rest ++ 46 ∷ found.0) split;
          part = ap component back ∙ again.0;
          leaf = ap is_leaf back ∙ again.1 ∙ sym e;
        }

-- ---- the components below a front

-- once a component is there, the names that have it are left out
skipped : (front rest : List ℕ) (list : List (List ℕ × Bool)) (es : List (Vec ℕ × ℕ)) → AllByRecursion (λ (q : Pair). is_before (front ++ rest) q.0 ≡ true) (map pair es) → IsInOrder (map pair es)
    → fold (with_child front) (insert_entry byte_order list (component rest) (is_leaf rest)) (taken front es) ≡ fold (with_child front) (insert_entry byte_order list (component rest) (is_leaf rest)) (taken front (from_front (behind front rest) es))
skipped front rest list [] all order = refl
skipped front rest list (e ∷ es) (here, all) (after, text, order) = by (is_le (byte_order (behind front rest) e.0.items)) refl (skipped front rest list es all order)
  where
    with_part : List (List ℕ × Bool)
    with_part = insert_entry byte_order list (component rest) (is_leaf rest)

    kept : List (Vec ℕ × ℕ)
    kept = from_front (behind front rest) es

    by : (t : Bool) → is_le (byte_order (behind front rest) e.0.items) ≡ t → fold (with_child front) with_part (taken front es) ≡ fold (with_child front) with_part (taken front kept)
        → fold (with_child front) with_part (taken front (e ∷ es)) ≡ fold (with_child front) with_part (taken front (cond (t && not false) (e ∷ kept) kept))
    by true p again = ap (λ (xs : List (Vec ℕ × ℕ)). fold (with_child front) with_part (taken front (e ∷ xs))) (sym (whole_from (behind front rest) e.0.items es p after))
    by false p again =
        let has : HasPart front rest e.0.items = part_between front rest e.0.items here (before_from_not_le (behind front rest) e.0.items p) in
        let same : with_child front with_part (pair e) ≡ with_part =
        ap (λ (n : List ℕ). insert_entry byte_order with_part n (is_leaf (drop (length front) e.0.items))) has.part
        ∙ ap (λ (leaf : Bool). insert_entry byte_order with_part (component rest) leaf) has.leaf
        ∙ twice list (component rest) (is_leaf rest) in
        ap (λ (t : Bool). fold (with_child front) with_part (if t then pair e ∷ taken front es else [])) has.begins
        ∙ ap (λ (parts : List (List ℕ × Bool)). fold (with_child front) parts (taken front es)) same
        ∙ again

-- A name that begins with the front is the first from a place on: with its component, the names from behind that one on make the
-- same components as those from the place on, and they are fewer.
pub record Sought (front at rest : List ℕ) (list : List (List ℕ × Bool)) (es : List (Vec ℕ × ℕ)) : Type 0 where
  pub same : fold (with_child front) (insert_entry byte_order list (component rest) (is_leaf rest)) (taken front (from_front (behind front rest) es)) ≡ fold (with_child front) list (taken front (from_front at es))
  pub text : IsText rest
  pub fewer : length (from_front (behind front rest) es) < length (from_front at es)

pub sought : (front at rest : List ℕ) (list : List (List ℕ × Bool)) (es more : List (Vec ℕ × ℕ)) (e : Vec ℕ × ℕ) → IsInOrder (map pair es) → from_front at es ≡ e ∷ more → starts_with nat_eq e.0.items front ≡ true → rest ≡ drop (length front) e.0.items → Sought front at rest list es
sought front at rest list es more e order first begins is =
    let name : front ++ rest ≡ e.0.items = ap (λ (n : List ℕ). front ++ n) is ∙ sym (starts_split e.0.items front begins) in
    let ordered : IsInOrder (map pair (e ∷ more)) = subst (λ (xs : List (Vec ℕ × ℕ)). IsInOrder (map pair xs)) first (order_from at es order) in
    let low : AllByRecursion (λ (x : Vec ℕ × ℕ). is_le (byte_order at x.0.items) ≡ true) (e ∷ more) = subst (λ (xs : List (Vec ℕ × ℕ)). AllByRecursion (λ (x : Vec ℕ × ℕ). is_le (byte_order at x.0.items) ≡ true) xs) first (all_from at es) in
    let before : is_before e.0.items (behind front rest) ≡ true = subst (λ (n : List ℕ). is_before n (behind front rest) ≡ true) name (before_behind front rest) in
    let later : is_le (byte_order at (behind front rest)) ≡ true = before_le at (behind front rest) (le_before at e.0.items (behind front rest) low.0 before) in
    let left : from_front (behind front rest) es ≡ from_front (behind front rest) more =
    sym (from_later at (behind front rest) es later) ∙ ap (from_front (behind front rest)) first
    ∙ ap (λ (t : Bool). cond (t && not false) (e ∷ from_front (behind front rest) more) (from_front (behind front rest) more)) (not_le (behind front rest) e.0.items before) in
    let after : AllByRecursion (λ (q : Pair). is_before (front ++ rest) q.0 ≡ true) (map pair more) = subst (λ (n : List ℕ). AllByRecursion (λ (q : Pair). is_before n q.0 ≡ true) (map pair more)) (sym name) ordered.0 in
    let with_part : List (List ℕ × Bool) = insert_entry byte_order list (component rest) (is_leaf rest) in record {
      same =
          ap (λ (xs : List (Vec ℕ × ℕ)). fold (with_child front) with_part (taken front xs)) left
          ∙ sym (skipped front rest list more after ordered.2)
          ∙ ap (λ (n : List ℕ). fold (with_child front) (insert_entry byte_order list (component n) (is_leaf n)) (taken front more)) is
          ∙ ap (λ (t : Bool). fold (with_child front) list (if t then pair e ∷ taken front more else [])) (sym begins)
          ∙ ap (λ (xs : List (Vec ℕ × ℕ)). fold (with_child front) list (taken front xs)) (sym first);
      text = subst IsText (sym is) (All-drop (λ b. b ≢ 0) (length front) e.0.items ordered.1);
      fewer =
          let few : length (from_front (behind front rest) more) ≤ length more = at_most (behind front rest) more in
          let now : length (from_front (behind front rest) es) ≡ length (from_front (behind front rest) more) = ap length left in
          let all : length (from_front at es) ≡ length (e ∷ more) = ap length first in
          omega (arith, few, now, all);
    }

-- what a front is taken from begins with it
strip_starts : (x p : List ℕ) → pointwise nat_eq (take (length p) x) p ≡ true → starts_with nat_eq x p ≡ true
strip_starts x p h =
    let e : take (length p) x ≡ p = (slice_eq-Decides unsigned_Decides (take (length p) x) p (pointwise nat_eq (take (length p) x) p) refl).0 h in
    starts_join x p (drop (length p) x) (sym (take-append-drop (length p) x) ∙ ap (λ (begin : List ℕ). begin ++ drop (length p) x) e)

-- the same with a range's first name, and the front and the rest as they were taken
pub sought_in : (front at rest : List ℕ) (list : List (List ℕ × Bool)) (es range more : List (Vec ℕ × ℕ)) (e : Vec ℕ × ℕ) (name begin : List ℕ) → IsInOrder (map pair es) → range ≡ from_front at es → range ≡ e ∷ more
    → name ≡ e.0.items → begin ≡ front → pointwise nat_eq (take (length begin) name) begin ≡ true → rest ≡ drop (length begin) name → Sought front at rest list es
sought_in front at rest list es range more e name begin order is first named begun begins behind_it =
    sought front at rest list es more e order (sym is ∙ first)
    (ap (λ (n : List ℕ). starts_with nat_eq n front) (sym named) ∙ ap (λ (b : List ℕ). starts_with nat_eq name b) (sym begun) ∙ strip_starts name begin begins)
    (behind_it ∙ ap (λ (b : List ℕ). drop (length b) name) begun ∙ ap (drop (length front)) named)

-- the place behind the rest, where it was made of the front as it was taken
pub sought_place : (front begin rest place : List ℕ) → begin ≡ front → place ≡ behind begin rest → place ≡ behind front rest
sought_place front begin rest place begun is = is ∙ ap (λ (b : List ℕ). behind b rest) begun
