-- How far bytes go on like one of some texts, where they are none of them themselves.
use Rattle.std.specs.Prelude.{ℕ, ◌≤◌, List, ◌++◌, length, take}

-- one of these texts begins so
abbrev pub BeginsOne : (List ℕ → Type 0) → List ℕ → Type 0
BeginsOne Texts front = (more : List ℕ) × Texts (front ++ more)

-- The bytes are none of these texts, and their longest beginning with which one of them begins has this length: here
-- stands the first byte that fits none, or here the bytes end too early.
pub record IsFirstMisfit (Texts : List ℕ → Type 0) (bytes : List ℕ) (at : ℕ) : Type 0 where
  pub none : Texts bytes → ⊥
  pub within : at ≤ length bytes
  pub begins : BeginsOne Texts (take at bytes)
  pub longest : (n : ℕ) → n ≤ length bytes → BeginsOne Texts (take n bytes) → n ≤ at
