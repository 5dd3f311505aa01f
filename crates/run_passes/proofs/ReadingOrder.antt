-- What a run shows of its regions stands in the order in which they are served.
use Rattle.std.proofs.Common.{◌≡◌, ◌≢◌, ℕ, zero, suc, ◌+◌, ◌<◌, ◌≤◌, ◌⊎◌, inl, inr, ⊎_elim, Bool, true, false, List, [], ◌∷◌, map, length, nat_lt, slice_get, Some, if◌then◌else◌, sym, refl, ap, ◌∙◌, subst, arith}
use Rattle.std.specs.List.{AllZip}
use Rattle.std.proofs.lemmas.Bool.{ltb-true, lt-ltb, cases_order}
use Rattle.fetch_answers.specs.declared.shot.Shot.{Shot}
use Rattle.fetch_engine.specs.declared.server.Mounted.{Mounted}
use Rattle.fetch_engine.specs.Servers.{RowsAscendFrom}
use Rattle.script_runs.specs.Groups.{shot_of, with_shot, shots_of}
use Rattle.script_runs.specs.Regions.{ScriptRegion}
use Rattle.run_passes.specs.Crews.{clusters_in}

-- Lists of numbers

-- they rise, from one on
abbrev pub Rise : ℕ → List ℕ → Type 0
Rise least [] = Unit {0}
Rise least (n ∷ ns) = (least ≤ n) × Rise (n + 1) ns

-- a number stands among them
abbrev pub Among : List ℕ → ℕ → Type 0
Among ns n = (i : ℕ) × (slice_get ns i ≡ Some n)

-- each stands there once
abbrev pub AreOnce : List ℕ → Type 0
AreOnce ns = (i j n : ℕ) → slice_get ns i ≡ Some n → slice_get ns j ≡ Some n → i ≡ j

rise_least : (least : ℕ) (ns : List ℕ) (n : ℕ) → Rise least ns → Among ns n → least ≤ n
rise_least least [] n h (i, e) = absurd (cc)
rise_least least (m ∷ ms) n h (zero, e) = let same : m ≡ n = cc in let first = h.0 in omega arith
rise_least least (m ∷ ms) n h (suc i, e) = let above : m + 1 ≤ n = rise_least (m + 1) ms n h.1 (i, e) in let first = h.0 in omega arith

-- where it isn't the first, it stands behind
behind : (m : ℕ) (ms : List ℕ) (n : ℕ) → n ≢ m → Among (m ∷ ms) n → Among ms n
behind m ms n other (zero, e) = absurd (other (sym (first_is m ms n e)))
  where
    first_is : (m : ℕ) (ms : List ℕ) (n : ℕ) → slice_get (m ∷ ms) 0 ≡ Some n → m ≡ n
    first_is m ms n e = cc
behind m ms n other (suc i, e) = (i, e)

-- Rising numbers among others that rise are no more, and where they are as many, they are the same
pub rise_in : (least : ℕ) (ns ms : List ℕ) → Rise least ns → Rise least ms → ((n : ℕ) → Among ns n → Among ms n) → (length ns ≤ length ms) × (length ns ≡ length ms → ns ≡ ms)
rise_in least [] [] h g there = (omega arith, λ e. refl)
rise_in least (n ∷ ns) [] h g there = let none = there n (0, refl) in absurd (nowhere none.0 n none.1)
  where
    nowhere : (i n : ℕ) → slice_get [] i ≡ Some n → ⊥
    nowhere i n e = cc
rise_in least [] (m ∷ ms) h g there = (omega arith, λ e. absurd (omega arith))
rise_in least (n ∷ ns) (m ∷ ms) h g there = ⊎_elim
    (λ (same : n ≡ m).
    let more = rise_in (m + 1) ns ms (subst (λ (k : ℕ). Rise (k + 1) ns) same h.1) g.1
    (λ k among. behind m ms k (λ (e : k ≡ m). let above : n + 1 ≤ k = rise_least (n + 1) ns k h.1 among in absurd (omega arith)) (there k (suc among.0, among.1))) in
    let fewer = more.0 in
    (omega arith, λ e. ap (λ (k : ℕ). k ∷ ns) same ∙ ap (λ (ks : List ℕ). m ∷ ks) (more.1 (omega arith))))
    (λ (other : n ≢ m).
    let first : m + 1 ≤ n = rise_least (m + 1) ms n g.1 (behind m ms n other (there n (0, refl))) in
    let more = rise_in (m + 1) (n ∷ ns) ms (first, h.1) g.1
    (λ k among. behind m ms k (λ (e : k ≡ m). let above : m + 1 ≤ k = rise_least (m + 1) (n ∷ ns) k (first, h.1) among in absurd (omega arith)) (there k among)) in
    let fewer = more.0 in
    (omega arith, λ e. absurd (omega arith)))
    (same_or_not n m)
  where
    same_or_not : (n m : ℕ) → (n ≡ m) ⊎ (n ≢ m)
    same_or_not n m = ⊎_elim (λ (e : n ≡ m). inl e) (λ (d : (n < m) ⊎ (m < n)). inr (λ (e : n ≡ m). ⊎_elim (λ (x : n < m). omega arith) (λ (x : m < n). omega arith) d)) (cases_order n m)

-- Shots by rising cluster

abbrev pub clusters_of : List Shot → List ℕ
clusters_of shots = map (λ (shot : Shot). shot.cluster) shots

pub with_length : (shot : Shot) (shots : List Shot) → length (with_shot shot shots) ≡ suc (length shots)
with_length shot [] = refl
with_length shot (other ∷ others) = by_test (nat_lt shot.cluster other.cluster) (with_length shot others)
  where
    by_test : (b : Bool) → length (with_shot shot others) ≡ suc (length others) → length (if b then shot ∷ other ∷ others else other ∷ with_shot shot others) ≡ suc (suc (length others))
    by_test true more = refl
    by_test false more = ap suc more

-- what stands there is the new one, or stood there before
with_among : (shot : Shot) (shots : List Shot) (i : ℕ) (s : Shot) → slice_get (with_shot shot shots) i ≡ Some s → (s ≡ shot) ⊎ ((j : ℕ) × (slice_get shots j ≡ Some s))
with_among shot [] zero s e = inl (first_is shot s e)
  where
    first_is : (a b : Shot) → slice_get (a ∷ []) 0 ≡ Some b → b ≡ a
    first_is a b e = cc
with_among shot [] (suc i) s e = absurd (nowhere i s e)
  where
    nowhere : (i : ℕ) (s : Shot) → slice_get [] i ≡ Some s → ⊥
    nowhere i s e = cc
with_among shot (other ∷ others) i s e = by_test (nat_lt shot.cluster other.cluster) (λ j f. with_among shot others j s f) i e
  where
    first_is : (a b : Shot) (l : List Shot) → slice_get (a ∷ l) 0 ≡ Some b → b ≡ a
    first_is a b l e = cc

    by_test : (b : Bool) → ((j : ℕ) → slice_get (with_shot shot others) j ≡ Some s → (s ≡ shot) ⊎ ((k : ℕ) × (slice_get others k ≡ Some s))) → (i : ℕ) → slice_get (if b then shot ∷ other ∷ others else other ∷ with_shot shot others) i ≡ Some s → (s ≡ shot) ⊎ ((j : ℕ) × (slice_get (other ∷ others) j ≡ Some s))
    by_test true more zero e = inl (first_is shot s (other ∷ others) e)
    by_test true more (suc i) e = inr (i, e)
    by_test false more zero e = inr (0, e)
    by_test false more (suc i) e = ⊎_elim (λ (is : s ≡ shot). inl is) (λ (there : (j : ℕ) × (slice_get others j ≡ Some s)). inr (suc there.0, there.1)) (more i e)

-- a new cluster takes its place
with_rises : (least : ℕ) (shot : Shot) (shots : List Shot) → least ≤ shot.cluster → Rise least (clusters_of shots) → ((i : ℕ) (s : Shot) → slice_get shots i ≡ Some s → s.cluster ≢ shot.cluster) → Rise least (clusters_of (with_shot shot shots))
with_rises least shot [] h rise other = (h, tt)
with_rises least shot (first ∷ others) h rise other =
    by_test (nat_lt shot.cluster first.cluster) refl (λ above. with_rises (first.cluster + 1) shot others above rise.1 (λ i s there. other (suc i) s there))
  where
    by_test : (b : Bool) → nat_lt shot.cluster first.cluster ≡ b → (first.cluster + 1 ≤ shot.cluster → Rise (first.cluster + 1) (clusters_of (with_shot shot others))) → Rise least (clusters_of (if b then shot ∷ first ∷ others else first ∷ with_shot shot others))
    by_test true e more = let less : shot.cluster < first.cluster = ltb-true shot.cluster first.cluster e in (h, (omega arith, rise.1))
    by_test false e more =
        let past : first.cluster ≤ shot.cluster = not_below shot.cluster first.cluster e in
        let apart : first.cluster ≢ shot.cluster = other 0 first refl in
        let above : first.cluster + 1 ≤ shot.cluster = omega arith in
        (rise.0, more above)
      where
        not_below : (n m : ℕ) → nat_lt n m ≡ false → m ≤ n
        not_below n m f = ⊎_elim (λ (same : n ≡ m). omega arith) (λ (d : (n < m) ⊎ (m < n)). ⊎_elim (λ (x : n < m). absurd (not_both (nat_lt n m) (lt-ltb n m x) f)) (λ (x : m < n). omega arith) d) (cases_order n m)
          where
            not_both : (b : Bool) → b ≡ true → b ≡ false → ⊥
            not_both b x y = cc

-- The shots of a run

pub shots_length : (regions : List ScriptRegion) → length (shots_of regions) ≡ length regions
shots_length [] = refl
shots_length (r ∷ rs) = with_length (shot_of r) (shots_of rs) ∙ ap suc (shots_length rs)

-- each is that of a region
pub shot_from : (regions : List ScriptRegion) (p : ℕ) (s : Shot) → slice_get (shots_of regions) p ≡ Some s → (i : ℕ) × (r : ScriptRegion) × (slice_get regions i ≡ Some r) × (s ≡ shot_of r)
shot_from [] p s e = absurd (nowhere p s e)
  where
    nowhere : (i : ℕ) (s : Shot) → slice_get [] i ≡ Some s → ⊥
    nowhere i s e = cc
shot_from (r ∷ rs) p s e = ⊎_elim
    (λ (is : s ≡ shot_of r). (0, r, refl, is))
    (λ (there : (j : ℕ) × (slice_get (shots_of rs) j ≡ Some s)). let more = shot_from rs there.0 s there.1 in (suc more.0, more.1, more.2, more.3))
    (with_among (shot_of r) (shots_of rs) p s e)

-- no two regions have one cluster
abbrev pub AreApart : List ScriptRegion → Type 0
AreApart regions = (i j : ℕ) (x y : ScriptRegion) → slice_get regions i ≡ Some x → slice_get regions j ≡ Some y → x.cluster ≡ y.cluster → i ≡ j

shots_rise : (regions : List ScriptRegion) → AreApart regions → Rise 0 (clusters_of (shots_of regions))
shots_rise [] apart = tt
shots_rise (r ∷ rs) apart =
    with_rises 0 (shot_of r) (shots_of rs) (omega arith) (shots_rise rs (λ i j x y e f same. drop_suc i j (apart (suc i) (suc j) x y e f same)))
    (λ p s there same. let from = shot_from rs p s there in none from.0 (apart 0 (suc from.0) r from.1 refl from.2 (sym (sym (ap (λ (x : Shot). x.cluster) from.3) ∙ same))))
  where
    drop_suc : (i j : ℕ) → suc i ≡ suc j → i ≡ j
    drop_suc i j e = omega arith

    none : (i : ℕ) → 0 ≡ suc i → ⊥
    none i e = omega arith

rows_rise : (least : ℕ) (rows : List Mounted) → RowsAscendFrom least rows → Rise least (clusters_in rows)
rows_rise least [] h = tt
rows_rise least (row ∷ rows) h = (h.0, rows_rise (row.cluster + 1) rows h.1)

-- they have the clusters of the regions that are served, in order
pub clusters_same : (regions : List ScriptRegion) (server : List Mounted) → RowsAscendFrom 0 server → AreApart regions → length regions ≡ length server
    → ((i : ℕ) (r : ScriptRegion) → slice_get regions i ≡ Some r → (j : ℕ) × (mounted : Mounted) × (slice_get server j ≡ Some mounted) × (mounted.cluster ≡ r.cluster)) → clusters_of (shots_of regions) ≡ clusters_in server
clusters_same regions server ascend apart many served =
    (rise_in 0 (clusters_of (shots_of regions)) (clusters_in server) (shots_rise regions apart) (rows_rise 0 server ascend) among).1 (long_map (λ (s : Shot). s.cluster) (shots_of regions) ∙ (shots_length regions ∙ (many ∙ sym (long_map (λ (m : Mounted). m.cluster) server))))
  where
    long_map : {A : Type 0} (f : A → ℕ) (xs : List A) → length (map f xs) ≡ length xs
    long_map f [] = refl
    long_map f (x ∷ xs) = ap suc (long_map f xs)

    unmapped : {A : Type 0} (f : A → ℕ) (xs : List A) (i n : ℕ) → slice_get (map f xs) i ≡ Some n → (x : A) × (slice_get xs i ≡ Some x) × (f x ≡ n)
    unmapped f [] i n e = absurd (cc)
    unmapped f (x ∷ xs) zero n e = (x, refl, cc)
    unmapped f (x ∷ xs) (suc i) n e = unmapped f xs i n e

    mapped : {A : Type 0} (f : A → ℕ) (xs : List A) (i : ℕ) (x : A) → slice_get xs i ≡ Some x → slice_get (map f xs) i ≡ Some (f x)
    mapped f [] i x e = absurd (cc)
    mapped f (y ∷ ys) zero x e = let same : y ≡ x = cc in ap (λ (z : _). Some (f z)) same
    mapped f (y ∷ ys) (suc i) x e = mapped f ys i x e

    among : (n : ℕ) → Among (clusters_of (shots_of regions)) n → Among (clusters_in server) n
    among n (p, e) =
        let at = unmapped (λ (s : Shot). s.cluster) (shots_of regions) p n e in
        let from = shot_from regions p at.0 at.1 in
        let place = served from.0 from.1 from.2 in
        let same : place.1.cluster ≡ n = place.3 ∙ (sym (ap (λ (s : Shot). s.cluster) from.3) ∙ at.2) in
        (place.0, mapped (λ (m : Mounted). m.cluster) server place.0 place.1 place.2 ∙ ap (λ (k : ℕ). Some k) same)

-- Lists by places

pub zip_by : {A B : Type 0} (R : A → B → Type 0) (xs : List A) (ys : List B) → length xs ≡ length ys → ((p : ℕ) (x : A) (y : B) → slice_get xs p ≡ Some x → slice_get ys p ≡ Some y → R x y) → AllZip R xs ys
zip_by R [] [] e each = tt
zip_by R [] (y ∷ ys) e each = absurd (omega arith)
zip_by R (x ∷ xs) [] e each = absurd (omega arith)
zip_by R (x ∷ xs) (y ∷ ys) e each = (each 0 x y refl refl, zip_by R xs ys (omega arith) (λ p a b f g. each (suc p) a b f g))
