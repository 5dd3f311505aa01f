-- Components: the names that share one with another.
use Rattle.std.proofs.Common.{◌≡◌, ℕ, suc, ◌+◌, ◌<◌, ◌≤◌, Bool, true, false, not, cond, List, [], ◌∷◌, ◌++◌, length, take, drop, get_or, Some, None, refl, sym, ap, ◌∙◌, eqb-true, ltb, arith, length-append}
use Rattle.std.proofs.lemmas.Bool.{ltb-false}
use borrow.Author.Tests.{ltb-true}
use Rattle.std.proofs.lemmas.List.{take-append-drop, take_all, take_at}
use Rattle.std.proofs.lemmas.List.Sums.{prefix_len-le-length, passes_at_first}
use Rattle.std.proofs.lemmas.List.Folds.{length-prefix_len}
use Rattle.std.proofs.Math.Seq.{drop-cons}
use Rattle.std.specs.Prelude.{unwrap_or, is_none}
use Rattle.std.specs.List.{position_or_len}
use Rattle.pmns_core.specs.Below.{component, is_leaf, is_point}

-- where the first point stands, or the length
abbrev pub first_point : List ℕ → ℕ
first_point rest = position_or_len is_point rest

few : (rest : List ℕ) → first_point rest ≤ length rest
few rest = prefix_len-le-length (λ b. not (is_point b)) rest

pub component_front : (rest : List ℕ) → component rest ≡ take (first_point rest) rest
component_front rest = by (ltb (first_point rest) (length rest)) refl
  where
    by : (t : Bool) → ltb (first_point rest) (length rest) ≡ t → take (unwrap_or (cond t (Some (first_point rest)) None) (length rest)) rest ≡ take (first_point rest) rest
    by true e = refl
    by false e =
        let most : length rest ≤ first_point rest = ltb-false (first_point rest) (length rest) e in
        take_all (length rest) rest (omega arith) ∙ sym (take_all (first_point rest) rest most)

pub leaf_whole : (rest : List ℕ) → is_leaf rest ≡ true → component rest ≡ rest
leaf_whole rest leaf = by (ltb (first_point rest) (length rest)) refl leaf
  where
    by : (t : Bool) → ltb (first_point rest) (length rest) ≡ t → is_none (cond t (Some (first_point rest)) None) ≡ true → take (unwrap_or (cond t (Some (first_point rest)) None) (length rest)) rest ≡ rest
    by true e leaf = cc leaf
    by false e leaf = take_all (length rest) rest (omega arith)

node_has : (rest : List ℕ) → is_leaf rest ≡ false → first_point rest < length rest
node_has rest node = by (ltb (first_point rest) (length rest)) refl node
  where
    by : (t : Bool) → ltb (first_point rest) (length rest) ≡ t → is_none (cond t (Some (first_point rest)) None) ≡ false → first_point rest < length rest
    by true e node = ltb-true (first_point rest) (length rest) e
    by false e node = cc node

-- behind a component that is no leaf stands a point
pub node_split : (rest : List ℕ) → is_leaf rest ≡ false → rest ≡ component rest ++ 46 ∷ drop (suc (first_point rest)) rest
node_split rest node =
    let has : first_point rest < length rest = node_has rest node in
    let point : get_or rest (first_point rest) 0 ≡ 46 = eqb-true (get_or rest (first_point rest) 0) 46 (passes_at_first is_point rest 0 has) in
    sym (take-append-drop (first_point rest) rest)
    ∙ ap (λ (back : List ℕ). take (first_point rest) rest ++ back) (drop-cons rest (first_point rest) 0 has)
    ∙ ap (λ (b : ℕ). take (first_point rest) rest ++ b ∷ drop (suc (first_point rest)) rest) point
    ∙ ap (λ (front : List ℕ). front ++ 46 ∷ drop (suc (first_point rest)) rest) (sym (component_front rest))

-- and with any other bytes behind the point the component is the same
first_again : (rest more : List ℕ) → first_point (take (first_point rest) rest ++ 46 ∷ more) ≡ first_point rest
first_again [] more = refl
first_again (b ∷ bs) more = by (is_point b) refl (first_again bs more)
  where
    by : (t : Bool) → is_point b ≡ t → first_point (take (first_point bs) bs ++ 46 ∷ more) ≡ first_point bs
        → first_point (take (cond (not t) (1 + first_point bs) 0) (b ∷ bs) ++ 46 ∷ more) ≡ cond (not t) (1 + first_point bs) 0
    by true e again = refl
    by false e again =
        let one : 1 + first_point bs ≡ suc (first_point bs) = omega arith in
        ap (λ (n : ℕ). first_point (take n (b ∷ bs) ++ 46 ∷ more)) one
        ∙ ap (λ (t : Bool). cond (not t) (1 + first_point (take (first_point bs) bs ++ 46 ∷ more)) 0) e ∙ ap (λ n. 1 + n) again

pub node_again : (rest more : List ℕ) → is_leaf rest ≡ false → (component (component rest ++ 46 ∷ more) ≡ component rest) × (is_leaf (component rest ++ 46 ∷ more) ≡ false)
node_again rest more node =
    let whole : List ℕ = component rest ++ 46 ∷ more in
    let size : length (component rest) ≡ first_point rest = ap length (component_front rest) ∙ length-prefix_len (λ b. not (is_point b)) rest in
    let first : first_point whole ≡ first_point rest = ap (λ (front : List ℕ). first_point (front ++ 46 ∷ more)) (component_front rest) ∙ first_again rest more in
    let long : length whole ≡ length (component rest) + length (46 ∷ more) = length-append (component rest) (46 ∷ more) in
    let below : first_point whole < length whole = omega (arith, first, size, long) in
    let at : component whole ≡ component rest = component_front whole ∙ ap (λ n. take n whole) first ∙ take_at (component rest) (46 ∷ more) (first_point rest) size in
    (at, by (ltb (first_point whole) (length whole)) refl below)
  where
    whole_of : List ℕ
    whole_of = component rest ++ 46 ∷ more

    by : (t : Bool) → ltb (first_point whole_of) (length whole_of) ≡ t → first_point whole_of < length whole_of → is_none (cond t (Some (first_point whole_of)) None) ≡ false
    by true e below = refl
    by false e below = let most : length whole_of ≤ first_point whole_of = ltb-false (first_point whole_of) (length whole_of) e in absurd (omega arith)
