-- What a search through a list finds.
use Rattle.std.proofs.Common.{◌≡◌, ℕ, zero, suc, ◌+◌, Bool, List, [], ◌∷◌, length, Some, None, refl, ◌∙◌, ap, cond, not, nat_lt, All, arith}
use Rattle.std.specs.List.{position, position_or_len}

-- tests that agree on each item have the same first position
pub position_same : {X : Type 0} (P : X → Type 0) (p q : X → Bool) (xs : List X) → All P xs → ((x : X) → P x → p x ≡ q x) → position p xs ≡ position q xs
position_same {X = X} P p q xs all same = ap (λ (k : ℕ). cond (nat_lt k (length xs)) (Some k) None) (or_len_same P p q xs all same)
  where
    or_len_same : (R : X → Type 0) (s t : X → Bool) (ys : List X) → All R ys → ((x : X) → R x → s x ≡ t x) → position_or_len s ys ≡ position_or_len t ys
    or_len_same R s t [] every agree = refl
    or_len_same R s t (y ∷ ys) every agree =
        ap (λ b. cond (not b) (1 + position_or_len s ys) 0) (agree y (every zero y (omega arith)))
        ∙ ap (λ n. cond (not (t y)) (1 + n) 0) (or_len_same R s t ys (λ k d h. every (suc k) d (omega arith)) agree)
