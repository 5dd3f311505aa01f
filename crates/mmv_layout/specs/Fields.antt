-- Where numbers and texts stand in an image (mmv(5)). An offset is a number of bytes from the image's start;
-- word i is the bytes 8i to 8i + 7, the low byte first, and past the last word are zeros.
use Rattle.std.specs.Prelude.{ℕ, zero, suc, ◌+◌, ◌*◌, ◌/◌, ◌%◌, ◌^◌, Bool, ◌==◌, if◌then◌else◌, List, [], ◌∷◌, take, drop, length, slice_index}
use Rattle.std.specs.Int.{w64, from_le_bytes}
use Rattle.mmv_layout.specs.Below.{some_below}

-- the word in which an offset lies: at a multiple of 8 the number of the eight bytes there
unfoldable pub number64 : List ℕ → ℕ → ℕ
number64 words at = slice_index words (at / 8)

-- the number of four bytes at an offset that is a multiple of 4
unfoldable pub number32 : List ℕ → ℕ → ℕ
number32 words at = number64 words at / 2 ^ (8 * (at % 8)) % 4294967296

-- the byte at an offset
unfoldable pub byte_at : List ℕ → ℕ → ℕ
byte_at words at = number64 words at / 2 ^ (8 * (at % 8)) % 256

-- the bytes at an offset before the first zero byte, n at most
unfoldable pub text_at : List ℕ → ℕ → ℕ → List ℕ
text_at words at zero = []
text_at words at (suc n) = if byte_at words at == 0 then [] else byte_at words at ∷ text_at words (at + 1) n

-- one of the n bytes at an offset is zero
unfoldable pub has_zero : List ℕ → ℕ → ℕ → Bool
has_zero words at n = some_below n (λ k. byte_at words (at + k) == 0)

-- the first n words that bytes make
unfoldable pub first_words : ℕ → List ℕ → List ℕ
first_words zero bytes = []
first_words (suc n) bytes = from_le_bytes w64 (take 8 bytes) ∷ first_words n (drop 8 bytes)

-- the words that bytes make
unfoldable pub words_of : List ℕ → List ℕ
words_of bytes = first_words (length bytes / 8) bytes
