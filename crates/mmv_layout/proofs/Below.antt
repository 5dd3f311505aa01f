-- Tests of all numbers below a count, one number after the other.
use Rattle.std.proofs.Common.{◌≡◌, ℕ, zero, suc, ◌+◌, ◌<◌, ◌≤◌, Bool, true, false, ◌&&◌, ◌||◌, ◌⊎◌, ap, sym, ◌∙◌, refl, arith, add-one, ⊎_elim}
use Rattle.mmv_layout.specs.Below.{all_below, some_below}

and_false : (a : Bool) → (a && false) ≡ false
and_false true = refl
and_false false = refl

or_true : (a : Bool) → (a || true) ≡ true
or_true true = refl
or_true false = refl

-- below 0 there is none
pub all_none : (test : ℕ → Bool) → all_below 0 test ≡ true
unfolding all_below
all_none test = refl

pub some_none : (test : ℕ → Bool) → some_below 0 test ≡ false
unfolding some_below
some_none test = refl

-- one number more
pub all_more : (n : ℕ) (test : ℕ → Bool) → all_below (n + 1) test ≡ (all_below n test && test n)
unfolding all_below
all_more n test = rw add-one

pub some_more : (n : ℕ) (test : ℕ → Bool) → some_below (n + 1) test ≡ (some_below n test || test n)
unfolding some_below
some_more n test = rw add-one

pub below_suc : (k n : ℕ) → k < suc n → (k < n) ⊎ (k ≡ n)
below_suc k n h = grind arith

-- one that fails decides
pub all_fails : (n k : ℕ) (test : ℕ → Bool) → k < n → test k ≡ false → all_below n test ≡ false
unfolding all_below
all_fails zero k test h f = absurd (omega arith)
all_fails (suc n) k test h f =
    ⊎_elim (λ (below : k < n). ap (λ b. b && test n) (all_fails n k test below f))
    (λ (last : k ≡ n). ap (λ b. all_below n test && b) (sym (ap test last) ∙ f) ∙ and_false (all_below n test)) (below_suc k n h)

pub some_holds : (n k : ℕ) (test : ℕ → Bool) → k < n → test k ≡ true → some_below n test ≡ true
unfolding some_below
some_holds zero k test h f = absurd (omega arith)
some_holds (suc n) k test h f =
    ⊎_elim (λ (below : k < n). ap (λ b. b || test n) (some_holds n k test below f))
    (λ (last : k ≡ n). ap (λ b. some_below n test || b) (sym (ap test last) ∙ f) ∙ or_true (some_below n test)) (below_suc k n h)

pub both_left : (a b : Bool) → (a && b) ≡ true → a ≡ true
both_left true b h = refl
both_left false b h = cc

pub both_right : (a b : Bool) → (a && b) ≡ true → b ≡ true
both_right true b h = h
both_right false b h = cc

-- where all pass, each does
pub all_at : (n k : ℕ) (test : ℕ → Bool) → all_below n test ≡ true → k < n → test k ≡ true
unfolding all_below
all_at zero k test h below = absurd (omega arith)
all_at (suc n) k test h below =
    ⊎_elim (λ (less : k < n). all_at n k test (both_left _ _ h) less) (λ (last : k ≡ n). ap test last ∙ both_right _ _ h) (below_suc k n below)

-- no number passes the one test below a count, and so none the other
pub some_absent : (n : ℕ) (test : ℕ → Bool) → ((k : ℕ) → k < n → test k ≡ false) → some_below n test ≡ false
unfolding some_below
some_absent zero test none = refl
some_absent (suc n) test none = ap (λ b. b || test n) (some_absent n test (λ k h. none k (omega arith))) ∙ none n (omega arith)

-- what all pass below a count, all pass below a lesser one
pub all_lesser : (n k : ℕ) (test : ℕ → Bool) → all_below n test ≡ true → k ≤ n → all_below k test ≡ true
unfolding all_below
all_lesser zero zero test h le = h
all_lesser zero (suc k) test h le = absurd (omega arith)
all_lesser (suc n) k test h le = ⊎_elim (λ (below : k < suc n). all_lesser n k test (both_left _ _ h) (omega arith)) (λ (same : k ≡ suc n). ap (λ m. all_below m test) same ∙ h) (less_or_same k (suc n) le)
  where
    less_or_same : (a b : ℕ) → a ≤ b → (a < b) ⊎ (a ≡ b)
    less_or_same a b p = grind arith
