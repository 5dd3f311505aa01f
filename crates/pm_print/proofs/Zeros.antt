-- A text that ends at its only zero byte.
use Rattle.std.proofs.Common.{◌≡◌, ◌≢◌, ℕ, zero, suc, ◌+◌, ◌<◌, Bool, true, false, cond, nat_eq, List, [], ◌∷◌, length, take, refl, ap, ◌∙◌, arith, Some, None, option_map}
use mathlib.Core.Logic.{⊎_elim, inl, inr, ◌⊎◌}
use Rattle.memchr.specs.Find.{Passes, is_byte, Nowhere}
use Rattle.pm_print.specs.Values.{before_zero}

either : (q : Bool) → (q ≡ true) ⊎ (q ≡ false)
either true = inl refl
either false = inr refl

abbrev IsZeroAt : List ℕ → ℕ → Type 0
IsZeroAt bytes k = Passes (is_byte 0) bytes k

behind : (b : ℕ) (bs : List ℕ) (n : ℕ) → Nowhere (IsZeroAt (b ∷ bs)) 0 (suc n) → Nowhere (IsZeroAt bs) 0 n
behind b bs n none k low high found = none (suc k) (omega arith) (omega arith) found

ends_here : (b : ℕ) → nat_eq b 0 ≡ true → before_zero (b ∷ []) ≡ Some []
unfolding before_zero
ends_here b q = ap (λ t. cond t (Some []) None) q

stops_here : (b c : ℕ) (bs : List ℕ) → nat_eq b 0 ≡ true → before_zero (b ∷ c ∷ bs) ≡ None
unfolding before_zero
stops_here b c bs q = ap (λ t. cond t None (option_map (λ text. b ∷ text) (before_zero (c ∷ bs)))) q

goes_on : (b c : ℕ) (bs : List ℕ) → nat_eq b 0 ≡ false → before_zero (b ∷ c ∷ bs) ≡ option_map (λ text. b ∷ text) (before_zero (c ∷ bs))
unfolding before_zero
goes_on b c bs q = ap (λ t. cond t None (option_map (λ text. b ∷ text) (before_zero (c ∷ bs)))) q

no_end : (b : ℕ) → nat_eq b 0 ≡ false → before_zero (b ∷ []) ≡ None
unfolding before_zero
no_end b q = ap (λ t. cond t (Some []) None) q

-- the first zero byte is the last byte
pub ends_at : (bytes : List ℕ) (n : ℕ) → n < length bytes → IsZeroAt bytes n → Nowhere (IsZeroAt bytes) 0 n → n + 1 ≡ length bytes → before_zero bytes ≡ Some (take n bytes)
ends_at [] n h z none end = absurd (omega arith)
ends_at (b ∷ []) zero h z none end = ends_here b z
ends_at (b ∷ []) (suc n) h z none end = absurd (omega arith)
ends_at (b ∷ c ∷ bs) zero h z none end = absurd (omega arith)
ends_at (b ∷ c ∷ bs) (suc n) h z none end =
    ⊎_elim
    (λ (q : nat_eq b 0 ≡ true). absurd (none 0 (omega arith) (omega arith) q))
    (λ (q : nat_eq b 0 ≡ false). goes_on b c bs q ∙ ap (option_map (λ text. b ∷ text)) (ends_at (c ∷ bs) n (omega arith) z (behind b (c ∷ bs) n none) (omega arith)))
    (either (nat_eq b 0))

-- the first zero byte isn't the last byte
pub stops_at : (bytes : List ℕ) (n : ℕ) → n < length bytes → IsZeroAt bytes n → Nowhere (IsZeroAt bytes) 0 n → n + 1 ≢ length bytes → before_zero bytes ≡ None
stops_at [] n h z none more = absurd (omega arith)
stops_at (b ∷ []) n h z none more = absurd (more (omega arith))
stops_at (b ∷ c ∷ bs) zero h z none more = stops_here b c bs z
stops_at (b ∷ c ∷ bs) (suc n) h z none more =
    ⊎_elim
    (λ (q : nat_eq b 0 ≡ true). absurd (none 0 (omega arith) (omega arith) q))
    (λ (q : nat_eq b 0 ≡ false). goes_on b c bs q ∙ ap (option_map (λ text. b ∷ text)) (stops_at (c ∷ bs) n (omega arith) z (behind b (c ∷ bs) n none) (λ e. more (omega arith))))
    (either (nat_eq b 0))

-- no byte is zero
pub never_ends : (bytes : List ℕ) → Nowhere (IsZeroAt bytes) 0 (length bytes) → before_zero bytes ≡ None
unfolding before_zero
never_ends [] none = refl
never_ends (b ∷ []) none =
    ⊎_elim (λ (q : nat_eq b 0 ≡ true). absurd (none 0 (omega arith) (omega arith) q)) (λ (q : nat_eq b 0 ≡ false). no_end b q) (either (nat_eq b 0))
never_ends (b ∷ c ∷ bs) none =
    ⊎_elim
    (λ (q : nat_eq b 0 ≡ true). absurd (none 0 (omega arith) (omega arith) q))
    (λ (q : nat_eq b 0 ≡ false). goes_on b c bs q ∙ ap (option_map (λ text. b ∷ text)) (never_ends (c ∷ bs) (behind b (c ∷ bs) (length (c ∷ bs)) none)))
    (either (nat_eq b 0))
