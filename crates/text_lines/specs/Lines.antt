-- The lines of a text. Each ends with a line feed, also the last.
use Rattle.std.specs.Prelude.{◌≡◌, ℕ, ◌+◌, ◌<◌, ◌==◌, if◌then◌else◌, List, [], ◌∷◌, ◌++◌, length, option_map, Option, Some, None}

unfoldable pub prepend : ℕ → List (List ℕ) → List (List ℕ)
prepend b [] = (b ∷ []) ∷ []
prepend b (line ∷ lines) = (b ∷ line) ∷ lines

-- the lines of bytes, each with its line feed; the last may be without one
unfoldable pub lines_of : List ℕ → List (List ℕ)
lines_of [] = []
lines_of (b ∷ bs) = if b == 10 then (10 ∷ []) ∷ lines_of bs else prepend b (lines_of bs)

-- a line without the line feed at its end, if it has one
unfoldable pub without_feed : List ℕ → Option (List ℕ)
without_feed [] = None
without_feed (b ∷ []) = if b == 10 then Some [] else None
without_feed (b ∷ c ∷ bs) = option_map (λ text. b ∷ text) (without_feed (c ∷ bs))

-- bytes without a line feed are one line, which isn't ended
pub record IsUnended (bytes : List ℕ) : Type 0 where
  pub lines : 0 < length bytes → lines_of bytes ≡ bytes ∷ []
  pub first : 0 < length bytes → without_feed bytes ≡ None

-- the first line without its line feed, and the bytes behind it
pub record IsSplit (bytes line rest : List ℕ) : Type 0 where
  pub lines : lines_of bytes ≡ (line ++ 10 ∷ []) ∷ lines_of rest
  pub first : without_feed (line ++ 10 ∷ []) ≡ Some line
  pub long : length line + 1 + length rest ≡ length bytes
