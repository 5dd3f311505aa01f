-- Numbers that threads draw from one word.
use Rattle.std.specs.Prelude.{◌≡◌, ℕ, zero, suc, ◌+◌, ◌-◌, List, [], ◌∷◌, ◌++◌, length, sum_by}
use Rattle.atomic_table.specs.Table.{Me}
use Rattle.pmcd_server.specs.declared.draws.Draws.{Draws}

-- the numbers below n, weighed
abbrev pub sum_below : (ℕ → ℕ) → ℕ → ℕ
sum_below weigh zero = 0
sum_below weigh (suc n) = sum_below weigh n + weigh n

-- These are the numbers below n, each once, and no other: however numbers are weighed, they weigh as much.
abbrev pub AreBelow : List ℕ → ℕ → Type 0
AreBelow numbers n = (weigh : ℕ → ℕ) → sum_by weigh numbers ≡ sum_below weigh n

-- so many numbers can be drawn in all
abbrev pub most : ℕ
most = 1099511627776

-- and so many by one worker
abbrev pub share : ℕ
share = 4294967296

abbrev pub draws : ℕ → List ℕ → Draws
draws left drawn = record { left = left; drawn = drawn }

-- The rule. The word is how many numbers were drawn. They are the numbers below it, each once; and so many as are left may
-- still be drawn.
pub record AreDrawn (words : List ℕ) (views : List Draws) : Type 0 where
  pub many : ℕ
  pub word : words ≡ many ∷ []
  pub room : many + sum_by (λ v. v.left) views ≡ most
  pub counted : sum_by (λ v. length v.drawn) views ≡ many
  pub below : (weigh : ℕ → ℕ) → sum_by (λ v. sum_by weigh v.drawn) views ≡ sum_below weigh many

-- a draw tells the number found, one of those that were left
abbrev pub Draw : Me (Unit {0}) Draws → ℕ → Me (Unit {0}) Draws → Type 0
Draw me n new = (new.0 ≡ draws (me.0.left - 1) (me.0.drawn ++ n ∷ [])) × (new.1 ≡ me.1)

-- who hands out a share keeps the rest
abbrev pub after_sharing : Draws → Draws
after_sharing v = draws (v.left - share) v.drawn

-- who takes back what another drew and has left
abbrev pub after_taking : Draws → Draws → Draws
after_taking v w = draws (v.left + w.left) (v.drawn ++ w.drawn)
