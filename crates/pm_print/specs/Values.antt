-- A value as text, by the type code of its metric's description, if it has one.
use Rattle.std.specs.Prelude.{ℕ, ◌==◌, if◌then◌else◌, List, [], ◌∷◌, ◌++◌, length, Option, Some, None, option_map, decimal}
use Rattle.std.specs.Fmt.{signed_decimal}
use Rattle.std.specs.Int.{w32, w64, cast_signed, to_be_bytes, from_be_bytes}
use Rattle.text_lines.specs.Spelling.{hex_text, quoted_text}

abbrev pub hex_bytes : List ℕ → List ℕ
hex_bytes [] = []
hex_bytes (b ∷ bs) = hex_text 2 b ++ hex_bytes bs

-- the bytes in hexadecimal
unfoldable pub raw_text : List ℕ → List ℕ
raw_text bytes = 48 ∷ (120 ∷ hex_bytes bytes)

-- what stands before a zero byte that is the last byte and the only zero
unfoldable pub before_zero : List ℕ → Option (List ℕ)
before_zero [] = None
before_zero (b ∷ []) = if b == 0 then Some [] else None
before_zero (b ∷ c ∷ bs) = if b == 0 then None else option_map (λ text. b ∷ text) (before_zero (c ∷ bs))

-- a text in quotes, or else the bytes
abbrev pub quoted_or : Option (List ℕ) → List ℕ → List ℕ
quoted_or None bytes = raw_text bytes
quoted_or (Some text) bytes = quoted_text text

-- a value of 32 bits in its set: a number of this size in decimal, and anything else as its bytes
unfoldable pub word_text : Option ℕ → ℕ → List ℕ
word_text None word = raw_text (to_be_bytes w32 word)
word_text (Some code) word =
    if code == 0 then signed_decimal (cast_signed w32 word) else
    if code == 1 then decimal word else raw_text (to_be_bytes w32 word)

-- a number of 64 bits, if the bytes are one
abbrev pub number_in : List ℕ → Option ℕ
number_in bytes = if length bytes == 8 then Some (from_be_bytes w64 bytes) else None

-- it in decimal, or else the bytes
abbrev pub signed_or : Option ℕ → List ℕ → List ℕ
signed_or None bytes = raw_text bytes
signed_or (Some n) bytes = signed_decimal (cast_signed w64 n)

abbrev pub number_or : Option ℕ → List ℕ → List ℕ
number_or None bytes = raw_text bytes
number_or (Some n) bytes = decimal n

-- a value in a block: a number of 64 bits in decimal, a text in quotes, and anything else as its bytes
unfoldable pub block_text : Option ℕ → List ℕ → List ℕ
block_text None bytes = raw_text bytes
block_text (Some code) bytes =
    if code == 2 then signed_or (number_in bytes) bytes else
    if code == 3 then number_or (number_in bytes) bytes else
    if code == 6 then quoted_or (before_zero bytes) bytes else raw_text bytes
