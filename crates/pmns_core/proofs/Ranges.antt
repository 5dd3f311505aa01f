-- The pairs below a name are those from its front on, as far as they begin with it.
use Rattle.std.proofs.Common.{◌≡◌, ℕ, Bool, true, false, not, ◌&&◌, ◌||◌, cond, if◌then◌else◌, List, [], ◌∷◌, ◌++◌, length, map, drop, Some, None, refl, sym, ap, ◌∙◌, subst, arith, append_assoc, length-append}
use Rattle.std.specs.declared.cmp.Ordering.TheVariants.{Less, Greater}
use Rattle.std.specs.Prelude.{nat_eq, option_map, option_to_list}
use Rattle.std.specs.Ordering.{is_le, ordering_reverse}
use Rattle.std.specs.Cmp.Lexicographic.{nat_list_cmp_total}
use Rattle.std.specs.List.{list_any, filter, starts_with, AllByRecursion}
use Rattle.std.specs.Global.{Vec}
use Rattle.pcp_base.specs.Texts.{IsText}
use Rattle.pmns_core.specs.Order.{byte_order, is_same, is_before, continues}
use Rattle.pmns_core.specs.Pairs.{Pair, pmid_of, IsInOrder}
use Rattle.pmns_core.specs.Adding.{is_there}
use Rattle.pmns_core.specs.Below.{below}
use Rattle.pmns_core.proofs.Bytes.{order_less, order_equal, same_name, front_le, le_itself, starts_split, no_then}
use Rattle.pmns_core.proofs.Tables.{pair, from_front, none_after}

-- the pairs as far as their names begin with a front
abbrev pub taken : List ℕ → List (Vec ℕ × ℕ) → List Pair
taken front [] = []
taken front (e ∷ es) = if starts_with nat_eq e.0.items front then pair e ∷ taken front es else []

filter_none : (f : Pair → Bool) (pairs : List Pair) → list_any f pairs ≡ false → filter f pairs ≡ []
filter_none f [] h = refl
filter_none f (p ∷ pairs) h = by (f p) h (λ h'. filter_none f pairs h')
  where
    by : (t : Bool) → (t || list_any f pairs) ≡ false → (list_any f pairs ≡ false → filter f pairs ≡ []) → cond t (p ∷ filter f pairs) (filter f pairs) ≡ []
    by true h again = cc h
    by false h again = again h

pub taken_all : (front : List ℕ) (es : List (Vec ℕ × ℕ)) → IsInOrder (map pair es) → taken front (from_front front es) ≡ filter (λ (p : Pair). starts_with nat_eq p.0 front) (map pair es)
taken_all front [] order = refl
taken_all front (e ∷ es) (all, text, order) = by (is_le (byte_order front e.0.items)) refl (taken_all front es order)
  where
    rest : List Pair
    rest = filter (λ (p : Pair). starts_with nat_eq p.0 front) (map pair es)

    starts : Bool
    starts = starts_with nat_eq e.0.items front

    choose : (t : Bool) (xs : List Pair) → xs ≡ rest → (t ≡ false → rest ≡ []) → (if t then pair e ∷ xs else []) ≡ cond t (pair e ∷ rest) rest
    choose true xs again none = ap (λ ps. pair e ∷ ps) again
    choose false xs again none = sym (none refl)

    by : (t : Bool) → is_le (byte_order front e.0.items) ≡ t → taken front (from_front front es) ≡ rest → taken front (cond (t && not false) (e ∷ from_front front es) (from_front front es)) ≡ cond starts (pair e ∷ rest) rest
    by true le again = choose starts (taken front (from_front front es)) again (λ (other : starts ≡ false). filter_none (λ (p : Pair). starts_with nat_eq p.0 front) (map pair es) (none_after front e.0.items (map pair es) le other all))
    by false le again =
        let no : starts ≡ false = no_then starts (λ (s : starts ≡ true). let both : true ≡ false = sym (front_le front e.0.items s) ∙ le in cc both) in
        again ∙ ap (λ t. cond t (pair e ∷ rest) rest) (sym no)

-- a name is not the same as one after a name that isn't before it
not_later : (name x : List ℕ) (pairs : List Pair) → is_le (byte_order name x) ≡ true → AllByRecursion (λ (q : Pair). is_before x q.0 ≡ true) pairs → is_there pairs name ≡ false
not_later name x [] le all = refl
not_later name x (q ∷ pairs) le (before, all) =
    let no_q : is_same name q.0 ≡ false = no_then (is_same name q.0) (λ (s : is_same name q.0 ≡ true).
    let e : q.0 ≡ name = sym (same_name name q.0 s) in
    let less : byte_order x name ≡ Less = order_less (byte_order x name) (subst (λ (n : List ℕ). is_before x n ≡ true) e before) in
    let greater : byte_order name x ≡ Greater = nat_list_cmp_total.antisymm name x ∙ ap ordering_reverse less in
    let both : true ≡ false = sym le ∙ ap is_le greater in
    cc both) in
    ap (λ t. t || is_there pairs name) no_q ∙ not_later name x pairs le all

-- where the name is not there, those that continue it are all
filter_weaker : (name : List ℕ) (pairs : List Pair) → is_there pairs name ≡ false → filter (λ (p : Pair). is_same name p.0 || continues p.0 name) pairs ≡ filter (λ (p : Pair). continues p.0 name) pairs
filter_weaker name [] h = refl
filter_weaker name (p ∷ pairs) h = by (is_same name p.0) h (λ h'. filter_weaker name pairs h')
  where
    all : List Pair
    all = filter (λ (p : Pair). is_same name p.0 || continues p.0 name) pairs

    those : List Pair
    those = filter (λ (p : Pair). continues p.0 name) pairs

    by : (t : Bool) → (t || is_there pairs name) ≡ false → (is_there pairs name ≡ false → all ≡ those) → cond (t || continues p.0 name) (p ∷ all) all ≡ cond (continues p.0 name) (p ∷ those) those
    by true h again = cc h
    by false h again = ap (λ ps. cond (continues p.0 name) (p ∷ ps) ps) (again h)

none_pmid : (name : List ℕ) (ps : List Pair) → is_there ps name ≡ false → pmid_of ps name ≡ None
none_pmid name [] h = refl
none_pmid name (q ∷ ps) h = by (is_same name q.0) h (λ h'. none_pmid name ps h')
  where
    by : (t : Bool) → (t || is_there ps name) ≡ false → (is_there ps name ≡ false → pmid_of ps name ≡ None) → (if t then Some q.1 else pmid_of ps name) ≡ None
    by true h again = cc h
    by false h again = again h

-- a name doesn't continue itself
not_itself : (name : List ℕ) → continues name name ≡ false
not_itself name = no_then (continues name name) (λ (h : continues name name ≡ true).
    let e : name ≡ (name ++ 46 ∷ []) ++ drop (length (name ++ 46 ∷ [])) name = starts_split name (name ++ 46 ∷ []) h in
    omega (arith, simp length-append at (ap length e)))

-- the pair of the name itself comes before those that continue it
pub below_parts : (pairs : List Pair) (name : List ℕ) → IsInOrder pairs → option_to_list (option_map (λ (m : ℕ). (name, m)) (pmid_of pairs name)) ++ filter (λ (p : Pair). continues p.0 name) pairs ≡ below pairs name
below_parts [] name order = refl
below_parts (p ∷ pairs) name (all, text, order) = by (is_same name p.0) refl (continues p.0 name) refl (below_parts pairs name order)
  where
    those : List Pair
    those = filter (λ (p : Pair). continues p.0 name) pairs

    pair_of_name : List Pair
    pair_of_name = option_to_list (option_map (λ (m : ℕ). (name, m)) (pmid_of pairs name))

    by : (t : Bool) → is_same name p.0 ≡ t → (u : Bool) → continues p.0 name ≡ u → pair_of_name ++ those ≡ below pairs name
        → option_to_list (option_map (λ (m : ℕ). (name, m)) (if t then Some p.1 else pmid_of pairs name)) ++ cond u (p ∷ those) those ≡ cond (t || u) (p ∷ below pairs name) (below pairs name)
    by true s u e again =
        let same : name ≡ p.0 = same_name name p.0 s in
        let absent : is_there pairs name ≡ false = not_later name p.0 pairs (ap is_le (order_equal (byte_order name p.0) s)) all in
        let no : u ≡ false = sym e ∙ ap (λ n. continues n name) (sym same) ∙ not_itself name in
        ap (λ u. (name, p.1) ∷ cond u (p ∷ those) those) no
        ∙ ap (λ ps. (name, p.1) ∷ ps) (sym (filter_weaker name pairs absent))
        ∙ ap (λ n. (n, p.1) ∷ below pairs name) same
    by false s true e again =
        let front : p.0 ≡ name ++ (46 ∷ drop (length (name ++ 46 ∷ [])) p.0) = starts_split p.0 (name ++ 46 ∷ []) e ∙ append_assoc name (46 ∷ []) (drop (length (name ++ 46 ∷ [])) p.0) in
        let le : is_le (byte_order name p.0) ≡ true = ap (λ n. is_le (byte_order name n)) front ∙ le_itself name (46 ∷ drop (length (name ++ 46 ∷ [])) p.0) in
        let absent : is_there pairs name ≡ false = not_later name p.0 pairs le all in
        ap (λ o. option_to_list (option_map (λ (m : ℕ). (name, m)) o) ++ p ∷ those) (none_pmid name pairs absent)
        ∙ ap (λ ps. p ∷ ps) (sym (filter_weaker name pairs absent))
    by false s false e again = again

-- each key is a text
abbrev pub AreTexts : List (Vec ℕ × ℕ) → Type 0
AreTexts es = AllByRecursion (λ (e : Vec ℕ × ℕ). IsText e.0.items) es

pub texts_from_front : (front : List ℕ) (es : List (Vec ℕ × ℕ)) → IsInOrder (map pair es) → AreTexts (from_front front es)
texts_from_front front [] order = tt
texts_from_front front (e ∷ es) (all, text, order) = by (is_le (byte_order front e.0.items)) (texts_from_front front es order)
  where
    by : (t : Bool) → AreTexts (from_front front es) → AreTexts (cond (t && not false) (e ∷ from_front front es) (from_front front es))
    by true again = (text, again)
    by false again = again
