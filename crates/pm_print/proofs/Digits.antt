-- The last of some digits stands behind the others.
use Rattle.std.proofs.Common.{◌≡◌, ℕ, zero, suc, ◌+◌, ◌-◌, ◌/◌, ◌%◌, [], ◌∷◌, ◌++◌, ap, arith, refl}
use Rattle.pm_print.specs.Stamps.{digits}

pub last_digit : (k n : ℕ) → (k ≡ 0 → ⊥) → digits (k - 1) (n / 10) ++ (48 + n % 10) ∷ [] ≡ digits k n
unfolding digits
last_digit zero n h = absurd (h refl)
last_digit (suc k) n h = let e : suc k - 1 ≡ k = omega arith in ap (λ m. digits m (n / 10) ++ (48 + n % 10) ∷ []) e
