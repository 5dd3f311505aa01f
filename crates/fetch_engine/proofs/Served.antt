-- Regions whose clusters and FILEs are right, in ascending cluster.
use Rattle.std.proofs.Common.{◌≡◌, ℕ, zero, suc, ◌+◌, ◌<◌, ◌≤◌, Bool, true, false, ◌||◌, cond, nat_eq, List, [], ◌∷◌, ◌++◌, length, take, drop, get_or, All, Option, Some, None, append-nil, append_assoc, sym, refl, ap, ◌∙◌, subst, arith}
use Rattle.std.specs.Prelude.{nat_lt, IsPermutation}
use Rattle.std.specs.List.{list_any, sum_by}
use Rattle.std.specs.List.Sorted.{IsNonDecreasingBy}
use Rattle.std.proofs.lemmas.Bool.{eqb-true, eqb-false, eq-eqb, ltb-false}
use Rattle.std.proofs.lemmas.List.Elements.{All-nil, All-cons}
use Rattle.std.proofs.lemmas.List.Sorted.{All-permutation, length_permutation, sum_by-IsPermutation}
use Rattle.std.proofs.lemmas.List.Sums.{sum_by-append, sum_by-cons}
use Rattle.std.proofs.lemmas.List.{drop_more, take_more, length-take-le}
use Rattle.std.proofs.Math.Seq.{drop-length}
use Rattle.region_rule.specs.Views.{one_if}
use Rattle.fetch_engine.specs.Servers.{has_wrong_cluster, has_wrong_file, wrong_cluster, wrong_file, fault_of_file, fault_of_cluster, server_fault, RowsAscendFrom, IsServerOf}
use Rattle.fetch_engine.specs.declared.server.Mounted.{Mounted}
use Rattle.fetch_engine.specs.declared.server.ServerFault.TheVariants.{TooMany, Cluster}

-- Looking for the first wrong one

pub cluster_right : (rows : List Mounted) (i : ℕ) (d : Mounted) → i < length rows → has_wrong_cluster (take i rows) (get_or rows i d) ≡ false
    → wrong_cluster (take i rows) (drop i rows) ≡ wrong_cluster (take (i + 1) rows) (drop (i + 1) rows)
cluster_right rows i d below right =
    ap (λ (xs : List Mounted). wrong_cluster (take i rows) xs) (drop_more rows i d below)
    ∙ ap (λ (b : Bool). cond b (Some (get_or rows i d).cluster) (wrong_cluster (take i rows ++ get_or rows i d ∷ []) (drop (i + 1) rows))) right
    ∙ ap (λ (xs : List Mounted). wrong_cluster xs (drop (i + 1) rows)) (sym (take_more rows i d below))

pub cluster_wrong : (rows : List Mounted) (i : ℕ) (d : Mounted) → i < length rows → has_wrong_cluster (take i rows) (get_or rows i d) ≡ true
    → wrong_cluster (take i rows) (drop i rows) ≡ Some (get_or rows i d).cluster
cluster_wrong rows i d below wrong =
    ap (λ (xs : List Mounted). wrong_cluster (take i rows) xs) (drop_more rows i d below)
    ∙ ap (λ (b : Bool). cond b (Some (get_or rows i d).cluster) (wrong_cluster (take i rows ++ get_or rows i d ∷ []) (drop (i + 1) rows))) wrong

pub clusters_right : (rows : List Mounted) → wrong_cluster (take (length rows) rows) (drop (length rows) rows) ≡ None
clusters_right rows = ap (λ (xs : List Mounted). wrong_cluster (take (length rows) rows) xs) (drop-length rows)

pub file_right : (rows : List Mounted) (i : ℕ) (d : Mounted) → i < length rows → has_wrong_file (take i rows) (get_or rows i d) ≡ false
    → wrong_file (take i rows) (drop i rows) ≡ wrong_file (take (i + 1) rows) (drop (i + 1) rows)
file_right rows i d below right =
    ap (λ (xs : List Mounted). wrong_file (take i rows) xs) (drop_more rows i d below)
    ∙ ap (λ (b : Bool). cond b (Some (length (take i rows))) (wrong_file (take i rows ++ get_or rows i d ∷ []) (drop (i + 1) rows))) right
    ∙ ap (λ (xs : List Mounted). wrong_file xs (drop (i + 1) rows)) (sym (take_more rows i d below))

pub file_wrong : (rows : List Mounted) (i : ℕ) (d : Mounted) → i < length rows → has_wrong_file (take i rows) (get_or rows i d) ≡ true
    → wrong_file (take i rows) (drop i rows) ≡ Some i
file_wrong rows i d below wrong =
    ap (λ (xs : List Mounted). wrong_file (take i rows) xs) (drop_more rows i d below)
    ∙ ap (λ (b : Bool). cond b (Some (length (take i rows))) (wrong_file (take i rows ++ get_or rows i d ∷ []) (drop (i + 1) rows))) wrong
    ∙ ap (λ (n : ℕ). Some n) (length-take-le i rows (omega arith))

pub files_right : (rows : List Mounted) → wrong_file (take (length rows) rows) (drop (length rows) rows) ≡ None
files_right rows = ap (λ (xs : List Mounted). wrong_file (take (length rows) rows) xs) (drop-length rows)

-- Clusters that stand once

abbrev pub weight : ℕ → Mounted → ℕ
weight c row = one_if (nat_eq row.cluster c)

abbrev pub count : ℕ → List Mounted → ℕ
count c rows = sum_by (weight c) rows

count_front : (c : ℕ) (row : Mounted) (rows : List Mounted) → count c (row ∷ rows) ≡ weight c row + count c rows
count_front c row rows = sum_by-cons (weight c) row rows

count_none : (c : ℕ) → count c [] ≡ 0
count_none c = refl

count_behind : (c : ℕ) (before : List Mounted) (row : Mounted) → count c (before ++ row ∷ []) ≡ count c before + weight c row
count_behind c before row =
    let all : count c (before ++ row ∷ []) ≡ count c before + count c (row ∷ []) = sum_by-append (weight c) before (row ∷ []) in
    let last = count_front c row [] in
    let none = count_none c in
    omega arith

same_weight : (c : ℕ) (row : Mounted) → row.cluster ≡ c → weight c row ≡ 1
same_weight c row same = ap one_if (eq-eqb row.cluster c same)

none_counted : (c : ℕ) (rows : List Mounted) → list_any (λ (other : Mounted). nat_eq other.cluster c) rows ≡ false → count c rows ≡ 0
none_counted c [] h = refl
none_counted c (row ∷ rows) h = here (nat_eq row.cluster c) refl h (none_counted c rows)
  where
    here : (b : Bool) → nat_eq row.cluster c ≡ b → (b || list_any (λ (other : Mounted). nat_eq other.cluster c) rows) ≡ false
        → (list_any (λ (other : Mounted). nat_eq other.cluster c) rows ≡ false → count c rows ≡ 0) → count c (row ∷ rows) ≡ 0
    here true e h more = absurd (let both_are : true ≡ false = h in cc)
    here false e h more =
        let front = count_front c row rows in
        let rest = more h in
        let none : weight c row ≡ 0 = ap one_if e in
        omega arith

one_at_most : (c : ℕ) (before : List Mounted) (row : Mounted) → list_any (λ (other : Mounted). nat_eq other.cluster row.cluster) before ≡ false → count c before ≤ 1 → count c (before ++ row ∷ []) ≤ 1
one_at_most c before row none few = here (nat_eq row.cluster c) refl
  where
    here : (b : Bool) → nat_eq row.cluster c ≡ b → count c (before ++ row ∷ []) ≤ 1
    here true e =
        let same : row.cluster ≡ c = eqb-true row.cluster c e in
        let none_before : count c before ≡ 0 = subst (λ (k : ℕ). count k before ≡ 0) same (none_counted row.cluster before none) in
        let one : weight c row ≡ 1 = ap one_if e in
        let all = count_behind c before row in
        omega arith
    here false e =
        let none_here : weight c row ≡ 0 = ap one_if e in
        let all = count_behind c before row in
        omega arith

right_parts : (a b : Bool) → (a || b) ≡ false → (a ≡ false) × (b ≡ false)
right_parts false b h = (refl, h)
right_parts true b h = absurd (let both_are : true ≡ false = h in cc)

low_rows : (before rows : List Mounted) → wrong_cluster before rows ≡ None → All (λ (row : Mounted). row.cluster < 4096) rows
low_rows before [] h = All-nil (λ (row : Mounted). row.cluster < 4096)
low_rows before (row ∷ rows) h = here (has_wrong_cluster before row) refl h (low_rows (before ++ row ∷ []) rows)
  where
    here : (b : Bool) → has_wrong_cluster before row ≡ b → cond b (Some row.cluster) (wrong_cluster (before ++ row ∷ []) rows) ≡ None
        → (wrong_cluster (before ++ row ∷ []) rows ≡ None → All (λ (row : Mounted). row.cluster < 4096) rows) → All (λ (row : Mounted). row.cluster < 4096) (row ∷ rows)
    here true e h more = absurd (let both_are : Some row.cluster ≡ None = h in cc)
    here false e h more =
        let low : row.cluster ≤ 4095 = ltb-false 4095 row.cluster (right_parts (nat_lt 4095 row.cluster) (list_any (λ (other : Mounted). nat_eq other.cluster row.cluster) before) e).0 in
        All-cons (λ (row : Mounted). row.cluster < 4096) row rows (omega arith) (more h)

once_each : (before rows : List Mounted) → wrong_cluster before rows ≡ None → ((c : ℕ) → count c before ≤ 1) → (c : ℕ) → count c (before ++ rows) ≤ 1
once_each before [] h few c = subst (λ (xs : List Mounted). count c xs ≤ 1) (sym (append-nil before)) (few c)
once_each before (row ∷ rows) h few c = here (has_wrong_cluster before row) refl h (λ right once. once_each (before ++ row ∷ []) rows right once c)
  where
    here : (b : Bool) → has_wrong_cluster before row ≡ b → cond b (Some row.cluster) (wrong_cluster (before ++ row ∷ []) rows) ≡ None
        → (wrong_cluster (before ++ row ∷ []) rows ≡ None → ((k : ℕ) → count k (before ++ row ∷ []) ≤ 1) → count c ((before ++ row ∷ []) ++ rows) ≤ 1) → count c (before ++ row ∷ rows) ≤ 1
    here true e h more = absurd (let both_are : Some row.cluster ≡ None = h in cc)
    here false e h more =
        let none = (right_parts (nat_lt 4095 row.cluster) (list_any (λ (other : Mounted). nat_eq other.cluster row.cluster) before) e).1 in
        subst (λ (xs : List Mounted). count c xs ≤ 1) (append_assoc before (row ∷ []) rows) (more h (λ k. one_at_most k before row none (few k)))

-- Why there is no fault

pub record IsFaultless (rows : List Mounted) : Type 0 where
  pub few : length rows ≤ 64
  pub clusters : wrong_cluster [] rows ≡ None

pub faultless : (rows : List Mounted) → server_fault rows ≡ None → IsFaultless rows
faultless rows h = here (nat_lt 64 (length rows)) (wrong_cluster [] rows) refl refl h
  where
    here : (b : Bool) (o : Option ℕ) → nat_lt 64 (length rows) ≡ b → wrong_cluster [] rows ≡ o
        → cond b (Some (TooMany (length rows))) (fault_of_cluster (fault_of_file (wrong_file [] rows)) o) ≡ None → IsFaultless rows
    here true o e f h = absurd (let both_are : Some (TooMany (length rows)) ≡ None = h in cc)
    here false (Some c) e f h = absurd (let both_are : Some (Cluster c) ≡ None = h in cc)
    here false None e f h = let few = ltb-false 64 (length rows) e in record { few = few; clusters = f }

-- Order

-- a cluster that stands at some place is counted
counted : (c : ℕ) (rows : List Mounted) (k : ℕ) (d : Mounted) → k < length rows → (get_or rows k d).cluster ≡ c → 1 ≤ count c rows
counted c [] k d below same = absurd (omega arith)
counted c (row ∷ rows) zero d below same =
    let front = count_front c row rows in
    let one = same_weight c row same in
    omega arith
counted c (row ∷ rows) (suc k) d below same =
    let front = count_front c row rows in
    let more = counted c rows k d (omega arith) same in
    omega arith

-- so one that isn't below the first one is above it
apart : (row : Mounted) (rows : List Mounted) (k : ℕ) (d : Mounted) → k < length rows → row.cluster ≤ (get_or rows k d).cluster → count row.cluster (row ∷ rows) ≤ 1 → row.cluster + 1 ≤ (get_or rows k d).cluster
apart row rows k d below rise once = here (nat_eq (get_or rows k d).cluster row.cluster) refl
  where
    here : (b : Bool) → nat_eq (get_or rows k d).cluster row.cluster ≡ b → row.cluster + 1 ≤ (get_or rows k d).cluster
    here true e =
        let front = count_front row.cluster row rows in
        let one = same_weight row.cluster row refl in
        let more = counted row.cluster rows k d below (eqb-true (get_or rows k d).cluster row.cluster e) in
        absurd (omega arith)
    here false e = let differ = eqb-false (get_or rows k d).cluster row.cluster e in omega arith

ascending : (least : ℕ) (rows : List Mounted) → IsNonDecreasingBy (λ (row : Mounted). row.cluster) rows → ((c : ℕ) → count c rows ≤ 1)
    → ((k : ℕ) (d : Mounted) → k < length rows → least ≤ (get_or rows k d).cluster) → RowsAscendFrom least rows
ascending least [] rises once above = tt
ascending least (row ∷ rows) rises once above = (
  above 0 row (omega arith),
  ascending (row.cluster + 1) rows
      (λ i j d low below. rises (suc i) (suc j) d (omega arith) (omega arith))
      (λ c. let all = once c in let front = count_front c row rows in omega arith)
      (λ k d below. apart row rows k d below (rises 0 (suc k) d (omega arith) (omega arith)) (once row.cluster)),
)

pub is_served : (given rows : List Mounted) → server_fault given ≡ None → IsPermutation given rows → IsNonDecreasingBy (λ (row : Mounted). row.cluster) rows → IsServerOf given rows
is_served given rows none same rises =
    let right = faultless given none in
    let many = length_permutation given rows same in
    let few = right.few in
    let once : (c : ℕ) → count c rows ≤ 1 = λ c. subst (λ (n : ℕ). n ≤ 1) (sym (sum_by-IsPermutation (weight c) given rows same)) (once_each [] given right.clusters (λ k. let none = count_none k in omega arith) c) in
    record {
      faultless = none;
      same = same;
      server = record {
        few = omega arith;
        clusters = All-permutation (λ (row : Mounted). row.cluster < 4096) given rows same (low_rows [] given right.clusters);
        ascend = ascending 0 rows rises once (λ k d below. omega arith);
      };
    }
