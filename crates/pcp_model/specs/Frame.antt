-- A framed record (LOGARCHIVE(5)): its length, the payload, and its length again; the length counts both
-- length words, and is 12 to 16,777,216.
use Rattle.std.specs.Prelude.{◌⊎◌, ℕ, ◌+◌, ◌<◌, ◌≤◌, List, [], ◌∷◌, ◌++◌, length, take}
use Rattle.std.specs.Int.{w32, from_be_bytes}
use Rattle.pcp_model.specs.Words.{word}

unfoldable pub frame : List ℕ → List ℕ
frame payload = word (length payload + 8) ++ (payload ++ word (length payload + 8))

pub record IsFrameable (payload : List ℕ) : Type 0 where
  pub least : 4 ≤ length payload
  pub most : length payload ≤ 16777208

-- framed records, one after another
abbrev pub frames : List (List ℕ) → List ℕ
frames [] = []
frames (payload ∷ payloads) = frame payload ++ frames payloads

-- The beginning of a record that was not written whole: fewer than 4 bytes, or fewer than its length word says.
abbrev pub IsTorn : List ℕ → Type 0
IsTorn bytes = (length bytes < 4) ⊎ ((12 ≤ from_be_bytes w32 (take 4 bytes))
    × (from_be_bytes w32 (take 4 bytes) ≤ 16777216) × (length bytes < from_be_bytes w32 (take 4 bytes)))
