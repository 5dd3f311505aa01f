-- Sums over lists that are read by position.
use Rattle.std.proofs.Common.{◌≡◌, ℕ, zero, suc, ◌+◌, ◌≤◌, List, [], ◌∷◌, set, sym, refl, ap, arith}
use Rattle.std.specs.List.{sum_by}
use Rattle.std.proofs.lemmas.List.Sums.{sum_by-cons}
use mathlib.Core.Option.{some, some-injective, some-ne-none}
use lib.ListN.{get_elem?}

module _ {X : Type 0} (f : X → ℕ) where
  -- a sum after one item is replaced
  pub sum_at_set : (l : List X) (i : ℕ) (x y : X) → get_elem? l i ≡ some x → sum_by f (set l i y) + f x ≡ sum_by f l + f y
  sum_at_set [] i x y e = absurd (some-ne-none x (sym e))
  sum_at_set (z ∷ zs) zero x y e = let q : f z ≡ f x = ap f (some-injective z x e) in omega (arith, sum_by-cons f z zs, sum_by-cons f y zs)
  sum_at_set (z ∷ zs) (suc i) x y e = let h = sum_at_set zs i x y e in omega (arith, sum_by-cons f z zs, sum_by-cons f z (set zs i y))

  -- one item is no more than the sum
  pub le_sum : (l : List X) (i : ℕ) (x : X) → get_elem? l i ≡ some x → f x ≤ sum_by f l
  le_sum [] i x e = absurd (some-ne-none x (sym e))
  le_sum (z ∷ zs) zero x e = let q : f z ≡ f x = ap f (some-injective z x e) in omega (arith, sum_by-cons f z zs)
  le_sum (z ∷ zs) (suc i) x e = let h = le_sum zs i x e in omega (arith, sum_by-cons f z zs)

-- where all others count nothing, by one measure, they count nothing by another
pub alone : {X : Type 0} (f g : X → ℕ) → ((x : X) → f x ≡ 0 → g x ≡ 0) → (l : List X) (i : ℕ) (x : X) → get_elem? l i ≡ some x → sum_by f l ≤ f x → sum_by g l ≡ g x
alone f g none [] i x e le = absurd (some-ne-none x (sym e))
alone f g none (z ∷ zs) zero x e le =
    let q : f z ≡ f x = ap f (some-injective z x e) in
    let p : g z ≡ g x = ap g (some-injective z x e) in
    let h = nothing f g none zs (omega (arith, sum_by-cons f z zs)) in
    omega (arith, sum_by-cons g z zs)
  where
    nothing : {X : Type 0} (f g : X → ℕ) → ((x : X) → f x ≡ 0 → g x ≡ 0) → (l : List X) → sum_by f l ≡ 0 → sum_by g l ≡ 0
    nothing f g none [] e = refl
    nothing f g none (z ∷ zs) e = let h = nothing f g none zs (omega (arith, sum_by-cons f z zs)) in let k = none z (omega (arith, sum_by-cons f z zs)) in omega (arith, sum_by-cons g z zs)
alone f g none (z ∷ zs) (suc i) x e le =
    let l = le_sum f zs i x e in
    let h = alone f g none zs i x e (omega (arith, sum_by-cons f z zs)) in
    let k = none z (omega (arith, sum_by-cons f z zs)) in
    omega (arith, sum_by-cons g z zs)
