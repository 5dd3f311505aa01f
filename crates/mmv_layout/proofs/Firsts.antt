-- What is found first, one number after the other.
use Rattle.std.proofs.Common.{◌≡◌, ℕ, zero, suc, ◌+◌, ◌<◌, Bool, false, ap, sym, ◌∙◌, refl, arith, add-one, ⊎_elim}
use Rattle.std.specs.Prelude.{Option, Some, None}
use Rattle.mmv_layout.specs.Faults.{or_else, unless, first_below}
use Rattle.mmv_layout.proofs.Below.{below_suc}

-- nothing is found below 0, and nothing one number further where that number has nothing
pub first_none : (found : ℕ → Option ℕ) → first_below 0 found ≡ None
unfolding first_below
first_none found = refl

pub first_goes : (n : ℕ) (found : ℕ → Option ℕ) → first_below n found ≡ None → found n ≡ None → first_below (n + 1) found ≡ None
unfolding first_below or_else
first_goes n found none here = rw (add-one, none) here

-- the first that has something decides
pub first_stops : (n k at : ℕ) (found : ℕ → Option ℕ) → k < n → first_below k found ≡ None → found k ≡ Some at → first_below n found ≡ Some at
unfolding first_below or_else
first_stops zero k at found h none here = absurd (omega arith)
first_stops (suc n) k at found h none here =
    ⊎_elim (λ (below : k < n). ap (λ o. or_else o (found n)) (first_stops n k at found below none here))
    (λ (last : k ≡ n). ap (λ o. or_else o (found n)) (ap (λ m. first_below m found) (sym last) ∙ none) ∙ ap found (sym last) ∙ here) (below_suc k n h)

pub found_stops : (n k at : ℕ) (found : ℕ → Option ℕ) → k < n → first_below k found ≡ None → found k ≡ Some at → Some at ≡ first_below n found
found_stops n k at found h none here = sym (first_stops n k at found h none here)

pub test_stops : (n k at : ℕ) (good : ℕ → Bool) (offset : ℕ → ℕ) → k < n → first_below k (λ i. unless (good i) (offset i)) ≡ None → good k ≡ false → at ≡ offset k → Some at ≡ first_below n (λ i. unless (good i) (offset i))
unfolding unless
test_stops n k at good offset h none bad is = found_stops n k at (λ i. unless (good i) (offset i)) h none (rw (bad, is) refl)
