-- A stream of PDUs, one behind another. Each begins with a big-endian word of 4 bytes that says how many bytes it has,
-- this word with them: from 12, which its header has, to 65,536.
use Rattle.std.specs.Prelude.{◌≡◌, ◌⊎◌, ℕ, ◌<◌, ◌≤◌, List, [], ◌∷◌, ◌++◌, length, take, Option, Some, None}
use Rattle.std.specs.Int.{w32, from_be_bytes}
use Rattle.std.specs.List.{AllByRecursion}

-- the number in the first word
abbrev pub length_word : List ℕ → ℕ
length_word bytes = from_be_bytes w32 (take 4 bytes)

-- a whole PDU, by its length word
pub record IsPdu (bytes : List ℕ) : Type 0 where
  pub least : 12 ≤ length bytes
  pub most : length bytes ≤ 65536
  pub says : length_word bytes ≡ length bytes

-- the beginning of a PDU: fewer bytes than a length word has, or than it says
abbrev pub IsBegun : List ℕ → Type 0
IsBegun bytes = (length bytes < 4) ⊎ ((12 ≤ length_word bytes) × (length_word bytes ≤ 65536) × (length bytes < length_word bytes))

-- no PDU begins so: none has the length that the first word says
abbrev pub IsBad : List ℕ → ℕ → Type 0
IsBad bytes found = (4 ≤ length bytes) × (length_word bytes ≡ found) × ((found < 12) ⊎ (65536 < found))

-- bytes that begin with no whole PDU, with the length word that none has, if it's that
abbrev pub IsStop : List ℕ → Option ℕ → Type 0
IsStop bytes None = IsBegun bytes
IsStop bytes (Some found) = IsBad bytes found

-- PDUs one behind another
abbrev pub bytes_of_pdus : List (List ℕ) → List ℕ
bytes_of_pdus [] = []
bytes_of_pdus (pdu ∷ pdus) = pdu ++ bytes_of_pdus pdus

-- a stream is these whole PDUs, and bytes behind them
pub record Splits (stream : List ℕ) (pdus : List (List ℕ)) (rest : List ℕ) : Type 0 where
  pub is : stream ≡ bytes_of_pdus pdus ++ rest
  pub whole : AllByRecursion IsPdu pdus
