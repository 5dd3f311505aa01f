-- The last values of a stream.
use Rattle.std.proofs.Common.{◌≡◌, ℕ, ◌+◌, ◌-◌, ◌<◌, ◌≤◌, List, [], ◌∷◌, ◌++◌, length, drop, sym, ap, ◌∙◌, arith, length-append, length-drop}
use Rattle.std.specs.List.{AllByRecursion}
use Rattle.std.proofs.lemmas.List.{drop-append-le, drop-drop}
use Rattle.rule_watch.specs.Windows.{last}

module _ {X : Type 0} where
  pub last_all : (n : ℕ) (xs : List X) → length xs ≤ n → last n xs ≡ xs
  last_all n xs few = let none : length xs - n ≡ 0 = omega arith in ap (λ k. drop k xs) none

  pub last_full : (n : ℕ) (xs : List X) → length xs ≡ n + 1 → last n xs ≡ drop 1 xs
  last_full n xs long = let one : length xs - n ≡ 1 = omega arith in ap (λ k. drop k xs) one

  pub last_with : (n : ℕ) (xs : List X) (x : X) → 0 < n → last n (xs ++ x ∷ []) ≡ last (n - 1) xs ++ x ∷ []
  last_with n xs x some =
      let long : length (xs ++ x ∷ []) ≡ length xs + 1 = length-append xs (x ∷ []) in
      let same : length (xs ++ x ∷ []) - n ≡ length xs - (n - 1) = omega arith in
      let fewer : length xs - (n - 1) ≤ length xs = omega arith in
      ap (λ k. drop k (xs ++ x ∷ [])) same ∙ drop-append-le (length xs - (n - 1)) xs (x ∷ []) fewer

  pub length_last : (n : ℕ) (xs : List X) → length (last n xs) ≤ n
  length_last n xs = let long : length (drop (length xs - n) xs) ≡ length xs - (length xs - n) = length-drop (length xs - n) xs in omega arith

  -- The last of the last are the last.
  pub last_last : (n : ℕ) (xs ys : List X) → last n (last n xs ++ ys) ≡ last n (xs ++ ys)
  last_last n xs ys =
      let k : ℕ = length xs - n in
      let inside : k ≤ length xs = omega arith in
      let cut : drop k (xs ++ ys) ≡ drop k xs ++ ys = drop-append-le k xs ys inside in
      let shorter : length (drop k xs) ≡ length xs - k = length-drop k xs in
      let joined : length (drop k xs ++ ys) ≡ length (drop k xs) + length ys = length-append (drop k xs) ys in
      let whole : length (xs ++ ys) ≡ length xs + length ys = length-append xs ys in
      let same : k + (length (drop k xs ++ ys) - n) ≡ length (xs ++ ys) - n = omega arith in
      ap (drop (length (drop k xs ++ ys) - n)) (sym cut)
      ∙ drop-drop (length (drop k xs ++ ys) - n) k (xs ++ ys)
      ∙ ap (λ m. drop m (xs ++ ys)) same

pub all_behind : {X : Type 0} (P : X → Type 0) (xs : List X) → AllByRecursion P xs → AllByRecursion P (drop 1 xs)
all_behind P [] all = tt
all_behind P (x ∷ xs) all = all.1

pub all_with : {X : Type 0} (P : X → Type 0) (xs : List X) (x : X) → AllByRecursion P xs → P x → AllByRecursion P (xs ++ x ∷ [])
all_with P [] x all here = (here, tt)
all_with P (y ∷ ys) x all here = (all.0, all_with P ys x all.1 here)
