-- Texts are bytes without a zero byte, since archives and images end them by one.
use Rattle.std.specs.Prelude.{◌≡◌, ◌≢◌, ℕ, ◌<◌, List, length, slice_index, All}
use Rattle.pcp_base.specs.declared.text.TextError.{TextError}
use Rattle.pcp_base.specs.declared.text.TextError.TheVariants.{Zero, NoMemory}

abbrev pub IsText : List ℕ → Type 0
IsText bytes = All (λ b. b ≢ 0) bytes

-- the first zero byte stands here
pub record IsFirstZero (bytes : List ℕ) (at : ℕ) : Type 0 where
  pub within : at < length bytes
  pub zero : slice_index bytes at ≡ 0
  pub first : (k : ℕ) → k < at → slice_index bytes k ≢ 0

-- what a refusal to make a text of these bytes says
abbrev pub IsTextError : List ℕ → TextError → Type 0
IsTextError bytes (Zero z) = IsFirstZero bytes z.at
IsTextError bytes NoMemory = Unit {0}
