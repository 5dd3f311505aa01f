-- The clusters of a script's regions, sorted, are those of its server.
use Rattle.std.proofs.Common.{◌≡◌, ◌⊎◌, inl, inr, ⊎_elim, ℕ, zero, suc, ◌+◌, ◌<◌, ◌≤◌, Bool, true, false, ◌==◌, nat_eq, List, [], ◌∷◌, ◌++◌, length, map, get_or, slice_get, Some, None, sym, refl, ap, ◌∙◌, subst, arith}
use Rattle.std.specs.Prelude.{IsPermutation, Contains}
use Rattle.std.specs.List.{sum_by, position_from}
use Rattle.std.specs.List.Sorted.{IsNonDecreasingBy}
use Rattle.std.proofs.lemmas.Bool.{eqb-true, eqb-false, eq-eqb, ne_eqb}
use Rattle.std.proofs.lemmas.List.{length-map}
use Rattle.std.proofs.lemmas.List.Sorted.{Contains-permutation, IsPermutation-sym, length_permutation, sum_by-IsPermutation}
use Rattle.std.proofs.lemmas.List.Sums.{sum_by-cons}
use Rattle.region_rule.specs.Views.{one_if}
use Rattle.fetch_engine.specs.Servers.{RowsAscendFrom}
use Rattle.fetch_engine.specs.declared.server.Mounted.{Mounted}
use Rattle.run_script.specs.Rules.{KeepsRules}
use Rattle.run_script.specs.declared.script.RegionRow.{RegionRow}
use Rattle.run_script.specs.declared.script.Script.{Script}
use Rattle.run_passes.specs.Crews.{cluster_of, clusters_in, ServesScript}
use Rattle.run_passes.proofs.Crewing.{get_map}
use Rattle.run_passes.proofs.Placing.{one_row, position_found, position_none}
use Rattle.run_passes.specs.Hands.{IsServedAt}

-- Numbers in strictly ascending order

abbrev Ascends : ℕ → List ℕ → Type 0
Ascends least [] = Unit {0}
Ascends least (x ∷ xs) = (least ≤ x) × Ascends (x + 1) xs

ascends_rows : (least : ℕ) (rows : List Mounted) → RowsAscendFrom least rows → Ascends least (clusters_in rows)
ascends_rows least [] h = tt
ascends_rows least (row ∷ rows) h = (h.0, ascends_rows (row.cluster + 1) rows h.1)

ascends_lower : (low least : ℕ) (xs : List ℕ) → low ≤ least → Ascends least xs → Ascends low xs
ascends_lower low least [] h a = tt
ascends_lower low least (x ∷ xs) h a = let first = a.0 in (omega arith, a.1)

-- a number stands among others
abbrev Among : ℕ → List ℕ → Type 0
Among n xs = (i : ℕ) × (slice_get xs i ≡ Some n)

above : (least n : ℕ) (xs : List ℕ) → Ascends least xs → Among n xs → least ≤ n
above least n [] a e = absurd (let wrong = e.1 in cc)
above least n (x ∷ xs) a (zero, e) = let same : x ≡ n = cc in let first = a.0 in omega arith
above least n (x ∷ xs) a (suc i, e) = let more = above (x + 1) n xs a.1 (i, e) in let first = a.0 in omega arith

in_tail : (n x : ℕ) (xs : List ℕ) → Among n (x ∷ xs) → (n ≡ x) ⊎ Among n xs
in_tail n x xs (zero, e) = let same : x ≡ n = cc in inl (sym same)
in_tail n x xs (suc i, e) = inr (i, e)

in_later : (n x : ℕ) (xs : List ℕ) → x < n → Among n (x ∷ xs) → Among n xs
in_later n x xs less h = ⊎_elim (λ (same : n ≡ x). absurd (omega arith)) (λ (more : Among n xs). more) (in_tail n x xs h)

-- such numbers that all stand among such others are no more
no_more : (least low : ℕ) (xs ys : List ℕ) → Ascends least xs → Ascends low ys → ((n : ℕ) → Among n xs → Among n ys) → length xs ≤ length ys
no_more least low [] ys a b all = omega arith
no_more least low (x ∷ xs) [] a b all = let e = (all x (0, refl)).1 in absurd (cc)
no_more least low (x ∷ xs) (y ∷ ys) a b all = ⊎_elim
    (λ (same : x ≡ y).
    let rest = no_more (x + 1) (y + 1) xs ys a.1 b.1 (λ n h. let big = above (x + 1) n xs a.1 h in in_later n y ys (omega arith) (all n (suc h.0, h.1))) in omega arith)
    (λ (later : Among x ys).
    let past = above (y + 1) x ys b.1 later in
    let rest = no_more least (y + 1) (x ∷ xs) ys a b.1 (λ n h. let big = above x n (x ∷ xs) (omega arith, a.1) h in in_later n y ys (omega arith) (all n h)) in omega arith)
    (in_tail x y ys (all x (0, refl)))

-- and as many are the same
same_numbers : (least low : ℕ) (xs ys : List ℕ) → Ascends least xs → Ascends low ys → ((n : ℕ) → Among n xs → Among n ys) → length xs ≡ length ys → xs ≡ ys
same_numbers least low [] [] a b all long = refl
same_numbers least low [] (y ∷ ys) a b all long = absurd (omega arith)
same_numbers least low (x ∷ xs) [] a b all long = absurd (omega arith)
same_numbers least low (x ∷ xs) (y ∷ ys) a b all long = ⊎_elim
    (λ (same : x ≡ y).
    let rest = same_numbers (x + 1) (y + 1) xs ys a.1 b.1 (λ n h. let big = above (x + 1) n xs a.1 h in in_later n y ys (omega arith) (all n (suc h.0, h.1))) (omega arith) in
    λ i. same i ∷ rest i)
    (λ (later : Among x ys).
    let past = above (y + 1) x ys b.1 later in
    let rest = no_more least (y + 1) (x ∷ xs) ys a b.1 (λ n h. let big = above x n (x ∷ xs) (omega arith, a.1) h in in_later n y ys (omega arith) (all n h)) in absurd (omega arith))
    (in_tail x y ys (all x (0, refl)))

-- How often a number stands there

abbrev weight : ℕ → ℕ → ℕ
weight c n = one_if (nat_eq n c)

abbrev count : ℕ → List ℕ → ℕ
count c xs = sum_by (weight c) xs

count_front : (c x : ℕ) (xs : List ℕ) → count c (x ∷ xs) ≡ weight c x + count c xs
count_front c x xs = sum_by-cons (weight c) x xs

counted : (c : ℕ) (xs : List ℕ) (k : ℕ) (d : ℕ) → k < length xs → get_or xs k d ≡ c → 1 ≤ count c xs
counted c [] k d below same = absurd (omega arith)
counted c (x ∷ xs) zero d below same = let front = count_front c x xs in let one : weight c x ≡ 1 = ap one_if (eq-eqb x c same) in omega arith
counted c (x ∷ xs) (suc k) d below same = let front = count_front c x xs in let more = counted c xs k d (omega arith) same in omega arith

apart : (x : ℕ) (xs : List ℕ) (k d : ℕ) → k < length xs → x ≤ get_or xs k d → count x (x ∷ xs) ≤ 1 → x + 1 ≤ get_or xs k d
apart x xs k d below rise once = by_test (nat_eq (get_or xs k d) x) refl
  where
    by_test : (b : Bool) → nat_eq (get_or xs k d) x ≡ b → x + 1 ≤ get_or xs k d
    by_test true e =
        let front = count_front x x xs in
        let one : weight x x ≡ 1 = ap one_if (eq-eqb x x refl) in
        let more = counted x xs k d below (eqb-true (get_or xs k d) x e) in
        absurd (omega arith)
    by_test false e = let differ = eqb-false (get_or xs k d) x e in omega arith

ascending : (least : ℕ) (xs : List ℕ) → IsNonDecreasingBy (λ (n : ℕ). n) xs → ((c : ℕ) → count c xs ≤ 1) → ((k d : ℕ) → k < length xs → least ≤ get_or xs k d) → Ascends least xs
ascending least [] rises once low = tt
ascending least (x ∷ xs) rises once low = (
  low 0 x (omega arith),
  ascending (x + 1) xs (λ i j d less below. rises (suc i) (suc j) d (omega arith) (omega arith)) (λ c. let all = once c in let front = count_front c x xs in omega arith)
      (λ k d below. apart x xs k d below (rises 0 (suc k) d (omega arith) (omega arith)) (once x)),
)

-- numbers no two of which are the same
none_there : (c : ℕ) (xs : List ℕ) → (Among c xs → ⊥) → count c xs ≡ 0
none_there c [] never = refl
none_there c (x ∷ xs) never =
    let front = count_front c x xs in
    let here : weight c x ≡ 0 = ap one_if (ne_eqb x c (λ (e : x ≡ c). never (0, ap (λ (n : ℕ). Some n) e))) in
    let rest = none_there c xs (λ h. never (suc h.0, h.1)) in
    omega arith

once_each : (c : ℕ) (xs : List ℕ) → ((i j : ℕ) (n : ℕ) → slice_get xs i ≡ Some n → slice_get xs j ≡ Some n → i ≡ j) → count c xs ≤ 1
once_each c [] one = let none : count c [] ≡ 0 = refl in omega arith
once_each c (x ∷ xs) one = by_test (nat_eq x c) refl (once_each c xs (λ i j n e f. let same = one (suc i) (suc j) n e f in omega arith))
  where
    by_test : (b : Bool) → nat_eq x c ≡ b → count c xs ≤ 1 → count c (x ∷ xs) ≤ 1
    by_test true e rest =
        let front = count_front c x xs in
        let here : weight c x ≡ 1 = ap one_if e in
        let none : count c xs ≡ 0 = none_there c xs (λ h. let same = one 0 (suc h.0) x refl (h.1 ∙ ap (λ (n : ℕ). Some n) (sym (eqb-true x c e))) in absurd (omega arith)) in
        omega arith
    by_test false e rest = let front = count_front c x xs in let here : weight c x ≡ 0 = ap one_if e in omega arith

-- The clusters of a script

from_map : {A : Type 0} (f : A → ℕ) (xs : List A) (i n : ℕ) → slice_get (map f xs) i ≡ Some n → (x : A) × (slice_get xs i ≡ Some x) × (f x ≡ n)
from_map f [] i n e = absurd (cc)
from_map f (x ∷ xs) zero n e = (x, refl, cc)
from_map f (x ∷ xs) (suc i) n e = from_map f xs i n e

contains_among : (xs : List ℕ) (n : ℕ) → Among n xs → Contains xs n
contains_among [] n h = absurd (let e = h.1 in cc)
contains_among (x ∷ xs) n (zero, e) = let same : x ≡ n = cc in (0, omega arith, same)
contains_among (x ∷ xs) n (suc i, e) = let more = contains_among xs n (i, e) in (suc more.0, omega arith, more.2)

among_contains : (xs : List ℕ) (n : ℕ) → Contains xs n → Among n xs
among_contains [] n c = absurd (omega arith)
among_contains (x ∷ xs) n (zero, h, e) = (0, ap (λ (m : ℕ). Some m) e)
among_contains (x ∷ xs) n (suc k, h, e) = let more = among_contains xs n (k, omega arith, e) in (suc more.0, more.1)

pub clusters_are : (script : Script) (seats : ℕ) (server : List Mounted) (sorted : List ℕ) → KeepsRules script → ServesScript script seats server → IsPermutation (map (cluster_of script) script.regions) sorted → IsNonDecreasingBy (λ (n : ℕ). n) sorted
    → sorted ≡ clusters_in server
clusters_are script seats server sorted keeps serves same rises =
    let given : List ℕ = map (cluster_of script) script.regions in
    let once : (c : ℕ) → count c sorted ≤ 1 = λ c. subst (λ (n : ℕ). n ≤ 1) (sym (sum_by-IsPermutation (weight c) given sorted same))
    (once_each c given (λ i j n e f.
    let a = from_map (cluster_of script) script.regions i n e in
    let b = from_map (cluster_of script) script.regions j n f in
    one_row script i j a.0 b.0 keeps a.1 b.1 (a.2 ∙ sym b.2))) in
    let up : Ascends 0 sorted = ascending 0 sorted rises once (λ k d below. omega arith) in
    let long_given : length given ≡ length script.regions = length-map script.regions (cluster_of script) in
    let long_sorted : length sorted ≡ length given = length_permutation given sorted same in
    let long_server : length (clusters_in server) ≡ length server = length-map server (λ (m : Mounted). m.cluster) in
    let as_many = serves.as_many in
    same_numbers 0 0 sorted (clusters_in server) up (ascends_rows 0 server serves.in_order.ascend)
    (λ n h.
    let was = among_contains given n (Contains-permutation sorted given n (IsPermutation-sym given sorted same) (contains_among sorted n h)) in
    let row = from_map (cluster_of script) script.regions was.0 n was.1 in
    let found = serves.each was.0 row.0 row.1 in
    (found.0, get_map (λ (m : Mounted). m.cluster) server found.0 found.1 found.2 ∙ ap (λ (c : ℕ). Some c) (found.3.cluster ∙ row.2)))
    (omega arith)

-- a cluster is found where its region is served
module _ (script : Script) (seats : ℕ) (server : List Mounted) (region cluster : ℕ) (row : RegionRow) (clusters : List ℕ) (serves : ServesScript script seats server) (is : slice_get script.regions region ≡ Some row) (of_row : cluster ≡ cluster_of script row)
    (clusters_is : clusters ≡ clusters_in server) where
  pub cluster_there : None ≡ position_from (λ (c : ℕ). c == cluster) 0 clusters → ⊥
  cluster_there g =
      let found = serves.each region row is in
      position_none clusters cluster 0 found.0 (sym g)
      (ap (λ (l : List ℕ). slice_get l found.0) clusters_is ∙ (get_map (λ (m : Mounted). m.cluster) server found.0 found.1 found.2 ∙ ap (λ (n : ℕ). Some n) (found.3.cluster ∙ sym of_row)))

  pub served_at : (at : ℕ) → Some at ≡ position_from (λ (c : ℕ). c == cluster) 0 clusters → IsServedAt script server region at
  served_at at e =
      let here : slice_get (clusters_in server) at ≡ Some cluster = ap (λ (l : List ℕ). slice_get l at) (sym clusters_is) ∙ position_found clusters cluster at e in
      let m = from_map (λ (m : Mounted). m.cluster) server at cluster here in
      record { row = row; is = is; mounted = m.0; there = m.1; cluster = m.2 ∙ of_row }

-- one more region whose place is known
pub one_more : (P : ℕ → ℕ → Type 0) (places : List ℕ) (at : ℕ) → ((i j : ℕ) → slice_get places i ≡ Some j → P i j) → P (length places) at → (i j : ℕ) → slice_get (places ++ at ∷ []) i ≡ Some j → P i j
one_more P [] at before here zero j e = let same : at ≡ j = cc in subst (λ (n : ℕ). P 0 n) same here
one_more P [] at before here (suc i) j e = absurd (cc)
one_more P (place ∷ places) at before here zero j e = before 0 j e
one_more P (place ∷ places) at before here (suc i) j e = one_more (λ k n. P (suc k) n) places at (λ k n f. before (suc k) n f) here i j e
