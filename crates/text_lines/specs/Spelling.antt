-- How each part is written: numbers in decimal, hexadecimal digits of lower case, and escapes only where they are
-- needed.
use Rattle.std.specs.Prelude.{ℕ, ℤ, zero, suc, ◌+◌, ◌/◌, ◌%◌, ◌==◌, ◌||◌, nat_lt, if◌then◌else◌, List, [], ◌∷◌, ◌++◌, Option, Some, None, decimal}
use Rattle.std.specs.Fmt.{signed_decimal}
use Rattle.text_lines.specs.Words.{is_plain}

abbrev pub hex_glyph : ℕ → ℕ
hex_glyph d = if nat_lt d 10 then 48 + d else 87 + d

-- so many hexadecimal digits
unfoldable pub hex_text : ℕ → ℕ → List ℕ
hex_text zero n = []
hex_text (suc k) n = hex_text k (n / 16) ++ hex_glyph (n % 16) ∷ []

abbrev pub escape : ℕ → List ℕ
escape b =
    if b == 34 || b == 92 then 92 ∷ b ∷ [] else
    if is_plain b then b ∷ [] else 92 ∷ 120 ∷ hex_glyph (b / 16) ∷ hex_glyph (b % 16) ∷ []

abbrev pub escapes : List ℕ → List ℕ
escapes [] = []
escapes (b ∷ bs) = escape b ++ escapes bs

unfoldable pub quoted_text : List ℕ → List ℕ
quoted_text text = 34 ∷ (escapes text ++ 34 ∷ [])

-- a part of a line, behind its space; a missing one is `-`
unfoldable pub number_part : ℕ → List ℕ
number_part n = 32 ∷ decimal n

unfoldable pub int_part : ℤ → List ℕ
int_part n = 32 ∷ signed_decimal n

unfoldable pub text_part : List ℕ → List ℕ
text_part text = 32 ∷ quoted_text text

unfoldable pub hex_part : ℕ → ℕ → List ℕ
hex_part count n = 32 ∷ hex_text count n

abbrev pub missing_part : List ℕ
missing_part = 32 ∷ 45 ∷ []

abbrev pub optional_number_part : Option ℕ → List ℕ
optional_number_part None = missing_part
optional_number_part (Some n) = number_part n

abbrev pub optional_int_part : Option ℤ → List ℕ
optional_int_part None = missing_part
optional_int_part (Some n) = int_part n

abbrev pub help_part : Option (List ℕ) → List ℕ
help_part None = missing_part
help_part (Some text) = text_part text

-- a line of a name and one number, or two
abbrev pub one_number : List ℕ → ℕ → List ℕ
one_number name n = name ++ (number_part n ++ 10 ∷ [])

abbrev pub two_numbers : List ℕ → ℕ → ℕ → List ℕ
two_numbers name n m = name ++ (number_part n ++ (number_part m ++ 10 ∷ []))
