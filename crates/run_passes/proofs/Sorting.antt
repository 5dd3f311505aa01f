-- The clusters of a script's regions, once sorted, are those of the server that serves them.
use Rattle.std.proofs.Common.{◌≡◌, ◌≢◌, ℕ, zero, suc, ◌+◌, ◌<◌, ◌≤◌, true, false, nat_eq, List, [], ◌∷◌, ◌++◌, map, take, length, get_or, eq-eqb, ne_eqb, slice_get, Some, ⊎_elim, sym, refl, ap, ◌∙◌, subst, arith}
use Rattle.std.specs.Prelude.{IsPermutation}
use Rattle.std.specs.List.{AllByRecursion, IsDistinct}
use Rattle.std.specs.List.Sorted.{IsNonDecreasingBy}
use Rattle.std.proofs.lemmas.Bool.Decides.{same_from_decides, Decides-eqb}
use Rattle.std.proofs.lemmas.List.{length-map}
use Rattle.std.proofs.lemmas.List.Sorted.{Contains-permutation, IsPermutation-sym, length_permutation}
use Rattle.std.proofs.lemmas.Map.Keys.{IsDistinct-head, IsDistinct-tail, IsDistinct-from_apart, IsDistinct-IsPermutation}
use Rattle.std.proofs.lemmas.Option.{slice_get_within, slice_get-get_or, get_or_from_slice_get}
use Rattle.fetch_engine.specs.Servers.{RowsAscendFrom}
use Rattle.fetch_engine.specs.declared.server.Mounted.{Mounted}
use Rattle.run_script.specs.Rules.{KeepsRules}
use Rattle.run_script.specs.declared.script.Script.{Script}
use Rattle.run_passes.specs.Crews.{cluster_of, clusters_in, ServesScript}
use Rattle.run_passes.proofs.Crewing.{get_map, same_or_other}
use Rattle.run_passes.proofs.Placing.{one_row}

-- one item more of a list, mapped
pub map_more : {A B : Type 0} (f : A → B) (xs : List A) (i : ℕ) (x : A) → slice_get xs i ≡ Some x → map f (take (i + 1) xs) ≡ map f (take i xs) ++ f x ∷ []
map_more {A} f xs i x e = ap (λ (n : ℕ). map f (take n xs)) plus ∙ by_places xs i e
  where
    plus : i + 1 ≡ suc i
    plus = omega arith

    by_places : (xs : List A) (i : ℕ) → slice_get xs i ≡ Some x → map f (take (suc i) xs) ≡ map f (take i xs) ++ f x ∷ []
    by_places [] i e = absurd (cc)
    by_places (y ∷ ys) zero e = let same : y ≡ x = cc in ap (λ (z : A). f z ∷ []) same
    by_places (y ∷ ys) (suc i) e = ap (λ (l : List _). f y ∷ l) (by_places ys i e)

-- numbers ascend
abbrev Ascends : ℕ → List ℕ → Type 0
Ascends least [] = Unit {0}
Ascends least (n ∷ ns) = (least ≤ n) × Ascends (n + 1) ns

-- each number of the first list stands in the second
abbrev Stand : List ℕ → List ℕ → Type 0
Stand xs ys = (i n : ℕ) → slice_get xs i ≡ Some n → (j : ℕ) × (slice_get ys j ≡ Some n)

at_least : (least : ℕ) (ns : List ℕ) (i n : ℕ) → Ascends least ns → slice_get ns i ≡ Some n → least ≤ n
at_least least [] i n rise e = absurd (cc)
at_least least (m ∷ ns) zero n rise e = let same : m ≡ n = cc in let first = rise.0 in omega arith
at_least least (m ∷ ns) (suc i) n rise e = let first = rise.0 in let rest = at_least (m + 1) ns i n rise.1 e in omega arith

-- a number above the first stands behind it
behind : (m : ℕ) (ns : List ℕ) (j n : ℕ) → slice_get (m ∷ ns) j ≡ Some n → m ≢ n → (k : ℕ) × (slice_get ns k ≡ Some n)
behind m ns zero n e other = absurd (let same : m ≡ n = cc in other same)
behind m ns (suc j) n e other = (j, e)

below_not : (m n : ℕ) → m + 1 ≤ n → m ≢ n
below_not m n less same = absurd (omega arith)

-- of two ascending lists, one that stands in the other and is as long at least is the other
one_list : (least : ℕ) (xs ys : List ℕ) → Ascends least xs → Ascends least ys → Stand xs ys → length ys ≤ length xs → xs ≡ ys
one_list least [] [] rise_x rise_y inside many = refl
one_list least [] (y ∷ ys) rise_x rise_y inside many = absurd (omega arith)
one_list least (x ∷ xs) [] rise_x rise_y inside many = absurd (let found = inside zero x refl in let there = found.1 in cc)
one_list least (x ∷ xs) (y ∷ ys) rise_x rise_y inside many = ⊎_elim
    (λ (same : y ≡ x).
    let rise : Ascends (y + 1) xs = subst (λ (n : ℕ). Ascends (n + 1) xs) (sym same) rise_x.1 in
    let rest : xs ≡ ys = one_list (y + 1) xs ys rise rise_y.1
    (λ i n e. let found = inside (suc i) n e in behind y ys found.0 n found.1 (below_not y n (at_least (y + 1) xs i n rise e))) (omega arith) in
    λ i. sym same i ∷ rest i)
    (λ (other : y ≢ x).
    let first = inside zero x refl in
    let here = behind y ys first.0 x first.1 other in
    let above : y + 1 ≤ x = at_least (y + 1) ys here.0 x rise_y.1 here.1 in
    let rise : Ascends (y + 1) (x ∷ xs) = (above, rise_x.1) in
    let all : x ∷ xs ≡ ys = one_list (y + 1) (x ∷ xs) ys rise rise_y.1
    (λ i n e. let found = inside i n e in behind y ys found.0 n found.1 (below_not y n (at_least (y + 1) (x ∷ xs) i n rise e))) (omega arith) in
    let long : length (x ∷ xs) ≡ length ys = ap (λ (l : List ℕ). length l) all in
    absurd (omega arith))
    (same_or_other y x)

-- the clusters of a server ascend
rows_ascend : (least : ℕ) (rows : List Mounted) → RowsAscendFrom least rows → Ascends least (clusters_in rows)
rows_ascend least [] rise = tt
rows_ascend least (row ∷ rows) rise = (rise.0, rows_ascend (row.cluster + 1) rows rise.1)

-- so do numbers that don't fall, none of which stands twice
differ : (m n : ℕ) → nat_eq m n ≡ false → m ≢ n
differ m n e same = let yes : true ≡ false = sym (eq-eqb m n same) ∙ e in cc

rise_tail : (m : ℕ) (ns : List ℕ) → IsNonDecreasingBy (λ (n : ℕ). n) (m ∷ ns) → IsNonDecreasingBy (λ (n : ℕ). n) ns
rise_tail m ns rise i j d low below = rise (suc i) (suc j) d (omega arith) (omega arith)

ascends : (least : ℕ) (ns : List ℕ) → IsNonDecreasingBy (λ (n : ℕ). n) ns → IsDistinct nat_eq ns → ((n : ℕ) → slice_get ns zero ≡ Some n → least ≤ n) → Ascends least ns
ascends least [] rise once first = tt
ascends least (m ∷ ns) rise once first = (first m refl, ascends (m + 1) ns (rise_tail m ns rise) (IsDistinct-tail nat_eq m ns once) (λ n e. next ns n rise (IsDistinct-head nat_eq m ns once) e))
  where
    next : (ns : List ℕ) (n : ℕ) → IsNonDecreasingBy (λ (n : ℕ). n) (m ∷ ns) → AllByRecursion (λ (k : ℕ). nat_eq m k ≡ false) ns → slice_get ns zero ≡ Some n → m + 1 ≤ n
    next [] n up apart e = absurd (cc)
    next (k ∷ ks) n up apart e =
        let same : k ≡ n = cc in
        let more : m ≤ k = up zero (suc zero) m (omega arith) (omega arith) in
        let other : m ≢ k = differ m k apart.0 in
        ⊎_elim (λ (i : m ≡ k). absurd (other i)) (λ (i : m ≢ k). omega arith) (same_or_other m k)

-- what stands in a list after a permutation stood there before
stood : (xs ys : List ℕ) → IsPermutation xs ys → Stand ys xs
stood xs ys same i n e =
    let found = Contains-permutation ys xs n (IsPermutation-sym xs ys same) (i, slice_get_within ys i n e, get_or_from_slice_get ys i n n e) in
    (found.0, slice_get-get_or xs found.0 n found.1 ∙ ap (λ (m : ℕ). Some m) found.2)

mapped : {A : Type 0} (f : A → ℕ) (xs : List A) (i n : ℕ) → slice_get (map f xs) i ≡ Some n → (x : A) × (slice_get xs i ≡ Some x) × (f x ≡ n)
mapped f [] i n e = absurd (cc)
mapped f (x ∷ xs) zero n e = (x, refl, cc)
mapped f (x ∷ xs) (suc i) n e = mapped f xs i n e

module _ (script : Script) (ruled : KeepsRules script) where
  abbrev given : List ℕ
  given = map (cluster_of script) script.regions

  -- no two regions have one cluster
  once : IsDistinct nat_eq given
  once = IsDistinct-from_apart nat_eq given (λ i j d less below. apart i j d less below)
    where
      apart : (i j d : ℕ) → i < j → j < length given → nat_eq (get_or given i d) (get_or given j d) ≡ false
      apart i j d less below =
          let a = mapped (cluster_of script) script.regions i (get_or given i d) (slice_get-get_or given i d (omega arith)) in
          let b = mapped (cluster_of script) script.regions j (get_or given j d) (slice_get-get_or given j d below) in
          ne_eqb (get_or given i d) (get_or given j d)
          (λ same. let one : i ≡ j = one_row script i j a.0 b.0 ruled a.1 b.1 (a.2 ∙ (same ∙ sym b.2)) in absurd (omega arith))

  -- each cluster of a region is one of the server
  served : (seats : ℕ) (server : List Mounted) → ServesScript script seats server → Stand given (clusters_in server)
  served seats server serves i n e =
      let row = mapped (cluster_of script) script.regions i n e in
      let found = serves.each i row.0 row.1 in
      (found.0, get_map (λ (m : Mounted). m.cluster) server found.0 found.1 found.2 ∙ ap (λ (n : ℕ). Some n) (found.3.cluster ∙ row.2))

  pub clusters_are : (server : List Mounted) (clusters sorted : List ℕ) → ServesScript script 1 server → clusters ≡ given → IsPermutation clusters sorted → IsNonDecreasingBy (λ (n : ℕ). n) sorted → sorted ≡ clusters_in server
  clusters_are server clusters sorted serves is same rise =
      let moved : IsPermutation given sorted = subst (λ (l : List ℕ). IsPermutation l sorted) is same in
      let flips : (m n : ℕ) → nat_eq m n ≡ nat_eq n m = λ m n. same_from_decides (nat_eq m n) (nat_eq n m) (Decides-eqb m n) ((λ h. sym ((Decides-eqb n m).0 h)), λ h. (Decides-eqb n m).1 (sym h)) in
      let alone : IsDistinct nat_eq sorted = IsDistinct-IsPermutation nat_eq flips given sorted moved once in
      let a : length sorted ≡ length given = length_permutation given sorted moved in
      let b : length given ≡ length script.regions = length-map script.regions (cluster_of script) in
      let c : length (clusters_in server) ≡ length server = length-map server (λ (m : Mounted). m.cluster) in
      let d = serves.as_many in
      one_list 0 sorted (clusters_in server) (ascends 0 sorted rise alone (λ n e. omega arith)) (rows_ascend 0 server serves.in_order.ascend)
      (λ i n e. let before = stood given sorted moved i n e in served 1 server serves before.0 n before.1) (omega arith)
