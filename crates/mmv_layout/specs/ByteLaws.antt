-- What the definitions of this crate say together.
use Rattle.std.specs.Prelude.{◌≡◌, ℕ, ◌+◌, ◌*◌, ◌/◌, ◌%◌, ◌^◌, ◌<◌, List, length, slice_index}
use Rattle.mmv_layout.specs.Fields.{number32, number64, byte_at, words_of}

-- the words that bytes make hold these bytes, byte k at offset k
abbrev pub WordsHoldBytes : Type 0
WordsHoldBytes = (bytes : List ℕ) → ((j : ℕ) → slice_index bytes j < 256) → (k : ℕ) → k < 8 * (length bytes / 8) → byte_at (words_of bytes) k ≡ slice_index bytes k

-- a number of four bytes is that of its bytes, the low byte first
abbrev pub NumberHoldsBytes : Type 0
NumberHoldsBytes = (words : List ℕ) (at : ℕ) → at % 4 ≡ 0 →
    number32 words at ≡ byte_at words at + 256 * byte_at words (at + 1) + 65536 * byte_at words (at + 2) + 16777216 * byte_at words (at + 3)

-- a number of eight bytes is that of its halves, the low one first
abbrev pub NumberHoldsHalves : Type 0
NumberHoldsHalves = (words : List ℕ) (at : ℕ) → at % 8 ≡ 0 → slice_index words (at / 8) < 2 ^ 64 →
    number64 words at ≡ number32 words at + 4294967296 * number32 words (at + 4)
