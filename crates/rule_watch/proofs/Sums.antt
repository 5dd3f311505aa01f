-- The numbers that are kept fit 128 bits: the sum of at most 1,000 values, the least and the greatest, and differences.
use Rattle.std.proofs.Common.{◌≡◌, ℕ, suc, ℤ, pos, negsuc, neg_ℤ, ◌+ℤ◌, ◌-ℤ◌, ◌≤ℤ◌, ◌*◌, ◌<◌, ◌≤◌, List, [], ◌∷◌, ◌++◌, length, map, drop, FitsSigned, to_z, of_z, sym, ap, ap₂, subst, ◌∙◌, arith}
use Rattle.std.specs.Prelude.{int_lt}
use Rattle.std.specs.Int.{w128}
use Rattle.std.specs.List.{AllByRecursion}
use Rattle.std.proofs.lemmas.Bool.{cond_both}
use Rattle.std.proofs.lemmas.Int.{to_z-of_z, ints}
use Rattle.rule_watch.specs.Windows.{IsValue}
use Rattle.rule_watch.specs.Queues.{first_of, last_of}
use Rattle.rule_watch.specs.Aggregates.{least, total}

-- of at most the size of 1,000 values
pub record IsBounded (z : ℤ) : Type 0 where
  pub low : neg_ℤ (pos 18446744073709551616000) ≤ℤ z
  pub high : z ≤ℤ pos 18446744073709551616000

fits_wide : (z : ℤ) → neg_ℤ (pos 36893488147419103232000) ≤ℤ z → z ≤ℤ pos 36893488147419103232000 → FitsSigned w128 z
fits_wide (pos n) low high = record { sfits = omega (arith, ints) }
fits_wide (negsuc n) low high = record { sfits = omega (arith, ints) }

pub fits : (z : ℤ) → IsBounded z → FitsSigned w128 z
fits z b = fits_wide z (omega (arith, ints)) (omega (arith, ints))

pub plain : (z : ℤ) → IsBounded z → to_z w128 (of_z w128 z) ≡ z
plain z b = to_z-of_z w128 z (fits z b)

module _ (s x : ℤ) (b : IsBounded s) (d : IsBounded x) where
  pub minus_fits : FitsSigned w128 (to_z w128 (of_z w128 s) -ℤ to_z w128 (of_z w128 x))
  minus_fits = subst (FitsSigned w128) (sym (ap₂ (λ u v. u -ℤ v) (plain s b) (plain x d))) (fits_wide (s -ℤ x) (omega (arith, ints)) (omega (arith, ints)))

  pub minus_is : to_z w128 (of_z w128 (to_z w128 (of_z w128 s) -ℤ to_z w128 (of_z w128 x))) ≡ s -ℤ x
  minus_is = to_z-of_z w128 (to_z w128 (of_z w128 s) -ℤ to_z w128 (of_z w128 x)) minus_fits ∙ ap₂ (λ u v. u -ℤ v) (plain s b) (plain x d)

  pub plus_fits : FitsSigned w128 (to_z w128 (of_z w128 s) +ℤ to_z w128 (of_z w128 x))
  plus_fits = subst (FitsSigned w128) (sym (ap₂ (λ u v. u +ℤ v) (plain s b) (plain x d))) (fits_wide (s +ℤ x) (omega (arith, ints)) (omega (arith, ints)))

  pub plus_is : to_z w128 (of_z w128 (to_z w128 (of_z w128 s) +ℤ to_z w128 (of_z w128 x))) ≡ s +ℤ x
  plus_is = to_z-of_z w128 (to_z w128 (of_z w128 s) +ℤ to_z w128 (of_z w128 x)) plus_fits ∙ ap₂ (λ u v. u +ℤ v) (plain s b) (plain x d)

module _ (x : ℤ) (d : IsBounded x) where
  pub turned_fits : FitsSigned w128 (pos 0 -ℤ to_z w128 (of_z w128 x))
  turned_fits = subst (λ v. FitsSigned w128 (pos 0 -ℤ v)) (sym (plain x d)) (fits_wide (pos 0 -ℤ x) (omega (arith, ints)) (omega (arith, ints)))

  pub turned_is : to_z w128 (of_z w128 (pos 0 -ℤ to_z w128 (of_z w128 x))) ≡ neg_ℤ x
  turned_is = to_z-of_z w128 (pos 0 -ℤ to_z w128 (of_z w128 x)) turned_fits ∙ ap (λ v. pos 0 -ℤ v) (plain x d) ∙ omega (arith, ints)

-- Values

pub value_bounded : (x : ℤ) → IsValue x → IsBounded x
value_bounded x v = record { low = omega (arith, ints); high = omega (arith, ints) }

zero_bounded : IsBounded (pos 0)
zero_bounded = record { low = omega (arith, ints); high = omega (arith, ints) }

turned_bounded : (x : ℤ) → IsValue x → IsBounded (neg_ℤ x)
turned_bounded x v = record { low = omega (arith, ints); high = omega (arith, ints) }

pub first_bounded : (xs : List ℤ) → AllByRecursion IsValue xs → IsBounded (first_of xs)
first_bounded [] all = zero_bounded
first_bounded (x ∷ xs) all = value_bounded x all.0

pub last_bounded : (xs : List ℤ) → AllByRecursion IsValue xs → IsBounded (last_of xs)
last_bounded [] all = zero_bounded
last_bounded (x ∷ []) all = value_bounded x all.0
last_bounded (x ∷ y ∷ ys) all = last_bounded (y ∷ ys) all.1

record IsWithin (n : ℕ) (z : ℤ) : Type 0 where
  low : neg_ℤ (pos (n * 18446744073709551616)) ≤ℤ z
  high : z ≤ℤ pos (n * 18446744073709551616)

within_more : (n : ℕ) (x z : ℤ) → IsValue x → IsWithin n z → IsWithin (suc n) (x +ℤ z)
within_more n x z v w = record { low = omega (arith, ints); high = omega (arith, ints) }

within : (xs : List ℤ) → AllByRecursion IsValue xs → IsWithin (length xs) (total xs)
within [] all = record { low = omega (arith, ints); high = omega (arith, ints) }
within (x ∷ xs) all = within_more (length xs) x (total xs) all.0 (within xs all.1)

within_bounded : (n : ℕ) (z : ℤ) → n ≤ 1000 → IsWithin n z → IsBounded z
within_bounded n z few w = record { low = omega (arith, ints); high = omega (arith, ints) }

pub total_bounded : (xs : List ℤ) → AllByRecursion IsValue xs → length xs ≤ 1000 → IsBounded (total xs)
total_bounded xs all few = within_bounded (length xs) (total xs) few (within xs all)

pub turned_least : (xs : List ℤ) → AllByRecursion IsValue xs → IsBounded (least (map neg_ℤ xs))
turned_least [] all = zero_bounded
turned_least (x ∷ []) all = turned_bounded x all.0
turned_least (x ∷ y ∷ ys) all =
    let later = turned_least (y ∷ ys) all.1 in
    cond_both (int_lt (least (map neg_ℤ (y ∷ ys))) (neg_ℤ x)) (least (map neg_ℤ (y ∷ ys))) (neg_ℤ x) IsBounded (λ _. later) (λ _. turned_bounded x all.0)

pub least_bounded : (xs : List ℤ) → AllByRecursion IsValue xs → IsBounded (least xs)
least_bounded [] all = zero_bounded
least_bounded (x ∷ []) all = value_bounded x all.0
least_bounded (x ∷ y ∷ ys) all =
    let later = least_bounded (y ∷ ys) all.1 in
    cond_both (int_lt (least (y ∷ ys)) x) (least (y ∷ ys)) x IsBounded (λ _. later) (λ _. value_bounded x all.0)

-- Sums

minus_plus : (x z : ℤ) → (x +ℤ z) -ℤ x ≡ z
minus_plus x z = omega (arith, ints)

pub total_drop : (xs : List ℤ) → 0 < length xs → total xs -ℤ first_of xs ≡ total (drop 1 xs)
total_drop [] some = absurd (omega arith)
total_drop (x ∷ xs) some = minus_plus x (total xs)

plus_zero : (n : ℤ) → n +ℤ pos 0 ≡ pos 0 +ℤ n
plus_zero n = omega (arith, ints)

plus_plus : (x z n : ℤ) → x +ℤ (z +ℤ n) ≡ (x +ℤ z) +ℤ n
plus_plus x z n = omega (arith, ints)

pub total_with : (xs : List ℤ) (n : ℤ) → total (xs ++ n ∷ []) ≡ total xs +ℤ n
total_with [] n = plus_zero n
total_with (x ∷ xs) n = ap (λ z. x +ℤ z) (total_with xs n) ∙ plus_plus x (total xs) n
