-- Rows of chosen words.
use Rattle.std.proofs.Common.{◌≡◌, ℕ, zero, suc, ◌<◌, List, [], ◌∷◌, ◌++◌, length, get_or, set, take, refl, ap, arith}
use Rattle.std.specs.List.{zip}

-- one more pair
pub zip_more : (xs ys : List ℕ) (i y d : ℕ) → i < length xs → i < length ys → zip (take (suc i) xs) (take (suc i) (set ys i y)) ≡ zip (take i xs) (take i ys) ++ (get_or xs i d, y) ∷ []
zip_more [] ys i y d h b = absurd (omega arith)
zip_more (x ∷ xs) [] i y d h b = absurd (omega arith)
zip_more (x ∷ xs) (z ∷ zs) zero y d h b = refl
zip_more (x ∷ xs) (z ∷ zs) (suc i) y d h b = ap (λ (r : List (ℕ × ℕ)). (x, z) ∷ r) (zip_more xs zs i y d (omega arith) (omega arith))
