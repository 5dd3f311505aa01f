-- The first that isn't right.
use Rattle.std.proofs.Common.{◌≡◌, ℕ, ◌<◌, ◌≤◌, ◌⊎◌, inl, inr, Bool, true, false, ◌&&◌, ap, sym, subst, ◌∙◌, refl, arith}
use Rattle.run_script.specs.RecordingSteps.{IsFirst}

pub both_true : (a b : Bool) → a ≡ true → b ≡ true → (a && b) ≡ true
both_true a b e f = cc

pub left_true : (a b : Bool) → (a && b) ≡ true → a ≡ true
left_true true b e = refl
left_true false b e = cc

pub right_true : (a b : Bool) → (a && b) ≡ true → b ≡ true
right_true true b e = e
right_true false b e = cc

pub left_false : (a b : Bool) → a ≡ false → (a && b) ≡ false
left_false a b e = ap (λ t. t && b) e

pub right_false : (a b : Bool) → b ≡ false → (a && b) ≡ false
right_false true b e = e
right_false false b e = refl

-- another test that says the same
pub first_same : (p q : ℕ → Bool) (last n : ℕ) → ((k : ℕ) → k < last → p k ≡ q k) → IsFirst p last n → IsFirst q last n
first_same p q last n same h = record {
  within = h.within;
  before = λ k below. let w : n ≤ last = h.within in sym (same k (omega arith)) ∙ h.before k below;
  stops = λ less. sym (same n less) ∙ h.stops less;
}

-- a further test among those that are right
pub first_both : (p q : ℕ → Bool) (last n m : ℕ) → IsFirst p last n → IsFirst q n m → IsFirst (λ k. p k && q k) last m
first_both p q last n m h g = record {
  within = let a : n ≤ last = h.within in let b : m ≤ n = g.within in omega arith;
  before = λ k below. let b : m ≤ n = g.within in both_true (p k) (q k) (h.before k (omega arith)) (g.before k below);
  stops = λ less. ends (m_or m n g.within) less;
}
  where
    m_or : (m n : ℕ) → m ≤ n → (m < n) ⊎ (m ≡ n)
    m_or m n b = grind arith

    ends : (m < n) ⊎ (m ≡ n) → m < last → (p m && q m) ≡ false
    ends (inl less) below = right_false (p m) (q m) (g.stops less)
    ends (inr same) below = left_false (p m) (q m) (ap p same ∙ h.stops (subst (λ k. k < last) same below))

pub first_here : (right : ℕ → Bool) (last k : ℕ) → k < last → ((j : ℕ) → j < k → right j ≡ true) → right k ≡ false → IsFirst right last k
first_here right last k below before here = record {
  within = omega arith;
  before = before;
  stops = λ less. here;
}
