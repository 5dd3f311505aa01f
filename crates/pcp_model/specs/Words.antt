-- Fields of archive records: numbers are big-endian, one word is 4 bytes (LOGARCHIVE(5)).
use Rattle.std.specs.Prelude.{◌≡◌, refl, ℕ, ℤ, ◌-◌, List, ◌++◌, length, replicate}
use Rattle.std.specs.Int.{w32, to_be_bytes, cast_unsigned}

unfoldable pub word : ℕ → List ℕ
word n = to_be_bytes w32 n

-- two's complement
unfoldable pub signed_word : ℤ → List ℕ
signed_word z = to_be_bytes w32 (cast_unsigned w32 z)

-- a word has four bytes
pub length-word : (n : ℕ) → length (word n) ≡ 4
unfolding word
length-word n = refl

pub length-signed_word : (z : ℤ) → length (signed_word z) ≡ 4
unfolding signed_word
length-signed_word z = refl

abbrev pub zeros : ℕ → List ℕ
zeros n = replicate n 0

-- a text in a field of fixed width, filled with zeros
abbrev pub text_field : ℕ → List ℕ → List ℕ
text_field width text = text ++ zeros (width - length text)
