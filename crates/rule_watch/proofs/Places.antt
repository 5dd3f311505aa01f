-- The places at which a test passes.
use Rattle.std.proofs.Common.{◌≡◌, ℕ, zero, suc, ◌+◌, ◌<◌, ◌≤◌, Bool, true, false, cond, List, [], ◌∷◌, ◌++◌, length, take, get_or, Some, refl, sym, ap, subst, ◌∙◌, arith, add-one, length-take}
use Rattle.std.specs.Prelude.{slice_get, slice_index}
use Rattle.std.specs.List.{Contains}
use Rattle.std.specs.List.Sorted.{IsStrictlyIncreasing}
use Rattle.std.proofs.lemmas.Bool.{cond_both}
use Rattle.std.proofs.lemmas.List.{take_more}
use Rattle.rule_watch.specs.Watched.{places_from}

module _ {X : Type 0} (test : X → Bool) where
  pick : (b : Bool) (n : ℕ) (ys zs ws : List ℕ) → ys ≡ zs ++ ws → cond b (n ∷ ys) ys ≡ cond b (n ∷ zs) zs ++ ws
  pick true n ys zs ws h = ap (λ ms. n ∷ ms) h
  pick false n ys zs ws h = h

  pub places_with : (n : ℕ) (xs : List X) (x : X) (m : ℕ) → m ≡ n + length xs → places_from n test (xs ++ x ∷ []) ≡ places_from n test xs ++ cond (test x) (m ∷ []) []
  places_with n [] x m at = let same : n ≡ m = omega arith in ap (λ k. cond (test x) (k ∷ []) []) same
  places_with n (y ∷ ys) x m at =
      let next : m ≡ n + 1 + length ys = omega arith in
      pick (test y) n (places_from (n + 1) test (ys ++ x ∷ [])) (places_from (n + 1) test ys) (cond (test x) (m ∷ []) []) (places_with (n + 1) ys x m next)

  pub places_more : (xs : List X) (i : ℕ) (x : X) → i < length xs → x ≡ get_or xs i x → places_from 0 test (take (i + 1) xs) ≡ places_from 0 test (take i xs) ++ cond (test x) (i ∷ []) []
  places_more xs i x below is =
      let long : length (take i xs) ≡ i = omega (arith, length-take i xs) in
      ap (places_from 0 test) (take_more xs i x below ∙ ap (λ (z : X). take i xs ++ z ∷ []) (sym is))
      ∙ places_with 0 (take i xs) x i (omega arith)

  pub few_places : (n : ℕ) (xs : List X) → length (places_from n test xs) ≤ length xs
  few_places n [] = omega arith
  few_places n (x ∷ xs) =
      let later : length (places_from (n + 1) test xs) ≤ length xs = few_places (n + 1) xs in
      cond_both (test x) (n ∷ places_from (n + 1) test xs) (places_from (n + 1) test xs) (λ ms. length ms ≤ length (x ∷ xs)) (λ _. omega arith) (λ _. omega arith)

  from_here : (n : ℕ) (ms : List ℕ) → ((k : ℕ) → k < length ms → n + 1 ≤ slice_index ms k) → (k : ℕ) → k < length (n ∷ ms) → n ≤ slice_index (n ∷ ms) k
  from_here n ms later zero below = omega arith
  from_here n ms later (suc k) below = let more : n + 1 ≤ slice_index ms k = later k (omega arith) in omega arith

  from_next : (n : ℕ) (ms : List ℕ) → ((k : ℕ) → k < length ms → n + 1 ≤ slice_index ms k) → (k : ℕ) → k < length ms → n ≤ slice_index ms k
  from_next n ms later k below = let more : n + 1 ≤ slice_index ms k = later k below in omega arith

  -- Each place is at least the first.
  pub from_first : (n : ℕ) (xs : List X) (k : ℕ) → k < length (places_from n test xs) → n ≤ slice_index (places_from n test xs) k
  from_first n [] = λ k below. absurd (omega arith)
  from_first n (x ∷ xs) =
      let ms = places_from (n + 1) test xs in
      cond_both (test x) (n ∷ ms) ms (λ list. (k : ℕ) → k < length list → n ≤ slice_index list k)
      (λ _. from_here n ms (from_first (n + 1) xs)) (λ _. from_next n ms (from_first (n + 1) xs))

  rises_with : (n : ℕ) (ms : List ℕ) → ((k : ℕ) → k < length ms → n + 1 ≤ slice_index ms k) → IsStrictlyIncreasing ms → (k : ℕ) → suc k < length (n ∷ ms) → slice_index (n ∷ ms) k < slice_index (n ∷ ms) (suc k)
  rises_with n ms from rises zero below = let more : n + 1 ≤ slice_index ms 0 = from 0 (omega arith) in omega arith
  rises_with n ms from rises (suc k) below =
      let less : slice_index ms k < slice_index ms (k + 1) = rises k (omega arith) in
      subst (λ m. slice_index ms k < slice_index ms m) (add-one k) less

  rises_from : (n : ℕ) (ms : List ℕ) → ((k : ℕ) → k < length ms → n + 1 ≤ slice_index ms k) → IsStrictlyIncreasing ms → IsStrictlyIncreasing (n ∷ ms)
  rises_from n ms from rises k below =
      subst (λ m. slice_index (n ∷ ms) k < slice_index (n ∷ ms) m) (sym (add-one k)) (rises_with n ms from rises k (omega arith))

  pub places_rise : (n : ℕ) (xs : List X) → IsStrictlyIncreasing (places_from n test xs)
  places_rise n [] = λ k below. absurd (omega arith)
  places_rise n (x ∷ xs) =
      let ms = places_from (n + 1) test xs in
      cond_both (test x) (n ∷ ms) ms IsStrictlyIncreasing (λ _. rises_from n ms (from_first (n + 1) xs) (places_rise (n + 1) xs)) (λ _. places_rise (n + 1) xs)

  -- an item at a place passes
  abbrev pub Passes : ℕ → List X → ℕ → Type 0
  Passes n xs m = (k : ℕ) × (x : X) × (m ≡ n + k) × (slice_get xs k ≡ Some x) × (test x ≡ true)

  one_further : (n : ℕ) (y : X) (xs : List X) (m : ℕ) → Passes (n + 1) xs m → Passes n (y ∷ xs) m
  one_further n y xs m p = (suc p.0, p.1, omega (arith, p.2), p.3, p.4)

  pub passes_there : (n : ℕ) (xs : List X) (m : ℕ) → Contains (places_from n test xs) m → Passes n xs m
  passes_there n [] m has = absurd (let below : has.0 < 0 = has.1 in omega arith)
  passes_there n (x ∷ xs) m has = there (test x) refl has (passes_there (n + 1) xs m)
    where
      there : (b : Bool) → test x ≡ b → Contains (cond b (n ∷ places_from (n + 1) test xs) (places_from (n + 1) test xs)) m → (Contains (places_from (n + 1) test xs) m → Passes (n + 1) xs m) → Passes n (x ∷ xs) m
      there false e h later = one_further n x xs m (later h)
      there true e (zero, below, is) later = (zero, x, omega (arith, is), refl, e)
      there true e (suc k, below, is) later = one_further n x xs m (later (k, omega (arith, below), is))

  has_further : (n m : ℕ) (ms : List ℕ) → Contains ms m → Contains (n ∷ ms) m
  has_further n m ms h = (suc h.0, (let below : h.0 < length ms = h.1 in omega arith), h.2)

  has_behind : (b : Bool) (n m : ℕ) (ms : List ℕ) → Contains ms m → Contains (cond b (n ∷ ms) ms) m
  has_behind true n m ms h = has_further n m ms h
  has_behind false n m ms h = h

  pub there_passes : (n : ℕ) (xs : List X) (k m : ℕ) (x : X) → m ≡ n + k → slice_get xs k ≡ Some x → test x ≡ true → Contains (places_from n test xs) m
  there_passes n [] k m x at is h = cc
  there_passes n (y ∷ ys) zero m x at is h =
      let same : y ≡ x = cc in
      let first : n ≡ m = omega arith in
      subst (λ b. Contains (cond b (n ∷ places_from (n + 1) test ys) (places_from (n + 1) test ys)) m) (sym (ap test same ∙ h)) (zero, omega arith, first)
  there_passes n (y ∷ ys) (suc k) m x at is h =
      has_behind (test y) n m (places_from (n + 1) test ys) (there_passes (n + 1) ys k m x (omega arith) is h)
