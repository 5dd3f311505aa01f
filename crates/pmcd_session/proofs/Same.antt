-- Lists of one item many times.
use Rattle.std.proofs.Common.{◌≡◌, ℕ, zero, suc, ◌<◌, List, [], ◌∷◌, length, get_or, refl, ap, ◌∙◌, arith}
use Rattle.std.specs.Prelude.{replicate}

-- where each item is the same, the list is that item so many times
pub all_same : {X : Type 0} (xs : List X) (y : X) → ((k : ℕ) (d : X) → k < length xs → get_or xs k d ≡ y) → xs ≡ replicate (length xs) y
all_same [] y each = refl
all_same (x ∷ xs) y each = ap (λ h. h ∷ xs) (each zero x (omega arith)) ∙ ap (λ t. y ∷ t) (all_same xs y (λ k d below. each (suc k) d (omega arith)))
