-- Sums over a list.
use Rattle.std.proofs.Common.{◌≡◌, ◌≢◌, ℕ, zero, suc, ◌+◌, ◌≤◌, List, [], ◌∷◌, ◌++◌, set, replicate, sym, refl, ap, arith}
use mathlib.Core.Option.{some, some-injective, some-ne-none}
use lib.ListN.{get_elem?}
use Rattle.region_core.specs.Gate.{total}

module _ {X : Type 0} (f : X → ℕ) where
  -- a sum after one item is replaced
  pub total-set : (l : List X) (i : ℕ) (x y : X) → get_elem? l i ≡ some x → total f (set l i y) + f x ≡ total f l + f y
  total-set [] i x y e = absurd (some-ne-none x (sym e))
  total-set (z ∷ zs) zero x y e = let q : f z ≡ f x = ap f (some-injective z x e) in omega arith
  total-set (z ∷ zs) (suc i) x y e = let h = total-set zs i x y e in omega arith

  -- one item is no more than the sum
  pub le_total : (l : List X) (i : ℕ) (x : X) → get_elem? l i ≡ some x → f x ≤ total f l
  le_total [] i x e = absurd (some-ne-none x (sym e))
  le_total (z ∷ zs) zero x e = let q : f z ≡ f x = ap f (some-injective z x e) in omega arith
  le_total (z ∷ zs) (suc i) x e = let h = le_total zs i x e in omega arith

  -- nor are two at different positions
  pub two_le_total : (l : List X) (i j : ℕ) (x y : X) → i ≢ j → get_elem? l i ≡ some x → get_elem? l j ≡ some y → f x + f y ≤ total f l
  two_le_total [] i j x y n e d = absurd (some-ne-none x (sym e))
  two_le_total (z ∷ zs) zero zero x y n e d = absurd (n refl)
  two_le_total (z ∷ zs) zero (suc j) x y n e d = let q : f z ≡ f x = ap f (some-injective z x e) in let h = le_total zs j y d in omega arith
  two_le_total (z ∷ zs) (suc i) zero x y n e d = let q : f z ≡ f y = ap f (some-injective z y d) in let h = le_total zs i x e in omega arith
  two_le_total (z ∷ zs) (suc i) (suc j) x y n e d = let h = two_le_total zs i j x y (λ p. n (ap suc p)) e d in omega arith

  -- the sum over two lists
  pub total-append : (l m : List X) → total f (l ++ m) ≡ total f l + total f m
  total-append [] m = omega arith
  total-append (x ∷ xs) m = let h = total-append xs m in omega arith

  -- the sum with one more item at the end
  pub total-snoc : (l : List X) (x : X) → total f (l ++ x ∷ []) ≡ total f l + f x
  total-snoc l x = let h = total-append l (x ∷ []) in omega arith

  -- copies of an item that counts nothing
  pub total-copies : (n : ℕ) (x : X) → f x ≡ 0 → total f (replicate n x) ≡ 0
  total-copies zero x e = refl
  total-copies (suc n) x e = let h = total-copies n x e in omega arith
