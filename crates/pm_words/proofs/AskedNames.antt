-- How many words in front are names, and what holds of names.
use Rattle.std.proofs.Common.{◌≡◌, ◌≢◌, ℕ, ◌+◌, ◌<◌, ◌≤◌, Bool, true, false, not, cond, nat_eq, nat_lt, nat_le, ◌&&◌, List, [], ◌∷◌, map, length, ap, refl, sym, ◌∙◌, subst, arith, Option, Some, None}
use Rattle.std.specs.Prelude.{All, position}
use Rattle.std.specs.List.{AllByRecursion, position_or_len, prefix_len}
use Rattle.std.specs.Option.{unwrap_or}
use Rattle.std.proofs.lemmas.Bool.{eqb-true, ltb-false}
use Rattle.std.proofs.lemmas.List.Elements.{All-from_recursion, All-map}
use Rattle.std.proofs.lemmas.List.Sums.{prefix_len-le-length, prefix_len_passes}
use Rattle.pcp_base.specs.Names.{is_letter, is_name_byte, spells}
use Rattle.pcp_base.specs.Texts.{IsText}
use Rattle.pm_words.specs.CommandLine.{is_asked_name}
use Rattle.pm_words.proofs.Components.{left, right, letter_clean, byte_clean}

-- ---- the words in front

once : (t : Bool) (m n : ℕ) → m ≡ n → cond (not (not t)) (1 + m) 0 ≡ cond t (1 + n) 0
once true m n h = ap (λ k. 1 + k) h
once false m n h = refl

module _ {X : Type 0} (p : List ℕ → Bool) (f : X → List ℕ) where
  mapped : (xs : List X) → prefix_len (λ x. not (not (p (f x)))) xs ≡ prefix_len p (map f xs)
  mapped [] = refl
  mapped (x ∷ xs) = once (p (f x)) _ _ (mapped xs)

  told : (xs : List X) → prefix_len (λ x. p (f x)) xs ≡ prefix_len p (map f xs)
  told [] = refl
  told (x ∷ xs) = ap (λ k. cond (p (f x)) (1 + k) 0) (told xs)

  within : (n all : ℕ) → n ≤ all → (t : Bool) → nat_lt n all ≡ t → unwrap_or (cond t (Some n) None) all ≡ n
  within n all low true h = refl
  within n all low false h = let above : all ≤ n = ltb-false n all h in omega arith

  -- the first word that isn't so, or their number, is how many are so in front
  pub front_is : (xs : List X) → unwrap_or (position (λ x. not (p (f x))) xs) (length xs) ≡ prefix_len p (map f xs)
  front_is xs = within _ (length xs) (prefix_len-le-length (λ x. not (not (p (f x)))) xs) _ refl ∙ mapped xs

  -- where all are in front each is so
  pub each_is : (xs : List X) → prefix_len p (map f xs) ≡ length xs → All (λ x. p (f x) ≡ true) xs
  each_is xs h = λ k d lt. prefix_len_passes (λ x. p (f x)) xs k d (subst (λ n. k < n) (sym (told xs ∙ h)) lt)

-- ---- a name has no zero byte

spelled_clean : (start : Bool) (bs : List ℕ) → spells start bs ≡ true → AllByRecursion (λ b. b ≢ 0) bs
spelled_clean start [] h = tt
spelled_clean true (b ∷ bs) h = (letter_clean b (left (is_letter b) (spells false bs) h), spelled_clean false bs (right (is_letter b) (spells false bs) h))
spelled_clean false (b ∷ bs) h = next (nat_eq b 46) refl h (spelled_clean true bs) (spelled_clean false bs)
  where
    next : (dot : Bool) → nat_eq b 46 ≡ dot → cond dot (spells true bs) (is_name_byte b && spells false bs) ≡ true → (spells true bs ≡ true → AllByRecursion (λ b. b ≢ 0) bs) → (spells false bs ≡ true → AllByRecursion (λ b. b ≢ 0) bs) → AllByRecursion (λ b. b ≢ 0) (b ∷ bs)
    next true e h starts goes = (λ zero. let r : b ≡ 46 = eqb-true b 46 e in omega arith, starts h)
    next false e h starts goes = (byte_clean b (left (is_name_byte b) (spells false bs) h), goes (right (is_name_byte b) (spells false bs) h))

pub name_clean : (name : List ℕ) → is_asked_name name ≡ true → IsText name
name_clean name h = All-from_recursion (λ b. b ≢ 0) name (spelled_clean true name (right (nat_le (length name) 400) (spells true name) h))
