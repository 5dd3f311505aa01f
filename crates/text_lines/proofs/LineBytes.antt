-- No line feed stands in what is written.
use Rattle.std.proofs.Common.{◌≡◌, ℕ, pos, negsuc, suc, ◌/◌, ◌%◌, ◌^◌, ◌<◌, ◌≤◌, ◌==◌, ◌||◌, ◌&&◌, nat_le, cond, true, List, [], ◌∷◌, ◌++◌, arith, decimal, Some, None, All}
use Rattle.std.specs.List.{list_all}
use Rattle.std.proofs.lemmas.Bool.{cond_both, and_parts, leb-true, eqb-true, or_cases}
use Rattle.std.proofs.lemmas.List.Elements.{All-nil, All-cons, All-append, All-head, All-tail}
use mathlib.Core.Logic.{⊎_elim}
use Rattle.text_lines.specs.Laws.{IsLineByte, IsTextByte, NumberIsInLine, IntIsInLine, WholeIsInLine, HexIsInLine, OptionalNumberIsInLine, OptionalIntIsInLine, TextIsInLine, HelpIsInLine}
use Rattle.text_lines.specs.Spelling.{hex_glyph, hex_text, escape, escapes, quoted_text, text_part, number_part, int_part, hex_part}
use Rattle.text_lines.specs.Words.{is_plain}
use Rattle.text_lines.proofs.Decimals.{decimal_is, whole_of_int}
use Rattle.text_lines.proofs.Hexes.{hex_is, glyph_is}

-- a byte from the space on
above : (b : ℕ) → 32 ≤ b → b < 256 → IsLineByte b
above b low high = (high, λ e. omega arith)

pub behind_byte : (b : ℕ) (bytes : List ℕ) → 32 ≤ b → b < 256 → All IsLineByte bytes → All IsLineByte (b ∷ bytes)
behind_byte b bytes low high h = All-cons IsLineByte b bytes (above b low high) h

-- which written bytes show by computing
pub plain_bytes : (bytes : List ℕ) → list_all (λ b. nat_le 32 b && nat_le b 126) bytes ≡ true → All IsLineByte bytes
plain_bytes [] h = All-nil IsLineByte
plain_bytes (b ∷ bytes) h =
    let tests = and_parts (nat_le 32 b && nat_le b 126) (list_all (λ c. nat_le 32 c && nat_le c 126) bytes) h in
    let range = and_parts (nat_le 32 b) (nat_le b 126) tests.0 in
    let high : b ≤ 126 = leb-true b 126 range.1 in
    behind_byte b bytes (leb-true 32 b range.0) (omega arith) (plain_bytes bytes tests.1)

in-decimal : (n : ℕ) → n < 10 ^ 20 → All IsLineByte (decimal n)
in-decimal n h = decimal_is IsLineByte (λ b low high. above b (omega arith) (omega arith)) n h

in-missing : All IsLineByte (32 ∷ 45 ∷ [])
in-missing = behind_byte 32 (45 ∷ []) (omega arith) (omega arith) (behind_byte 45 [] (omega arith) (omega arith) (All-nil IsLineByte))

in-glyph : (d : ℕ) → d < 16 → IsLineByte (hex_glyph d)
in-glyph d h = above (hex_glyph d) (omega (arith, (glyph_is d h).0)) (omega (arith, (glyph_is d h).1))

pub number_in_line : NumberIsInLine
unfolding number_part
number_in_line n h = behind_byte 32 (decimal n) (omega arith) (omega arith) (in-decimal n (omega arith))

negative_in_line : (n : ℕ) → n < 10 ^ 20 → All IsLineByte (32 ∷ 45 ∷ decimal n)
negative_in_line n h = behind_byte 32 (45 ∷ decimal n) (omega arith) (omega arith) (behind_byte 45 (decimal n) (omega arith) (omega arith) (in-decimal n h))

pub whole_in_line : WholeIsInLine
unfolding int_part
whole_in_line (pos n) h = behind_byte 32 (decimal n) (omega arith) (omega arith) (in-decimal n h)
whole_in_line (negsuc n) h = negative_in_line (suc n) h

pub int_in_line : IntIsInLine
int_in_line n h = whole_in_line n (whole_of_int n h)

pub hex_in_line : HexIsInLine
unfolding hex_part
hex_in_line count n = behind_byte 32 (hex_text count n) (omega arith) (omega arith) (hex_is IsLineByte in-glyph count n)

pub optional_number_in_line : OptionalNumberIsInLine
optional_number_in_line None h = in-missing
optional_number_in_line (Some n) h = number_in_line n (omega arith)

pub optional_int_in_line : OptionalIntIsInLine
optional_int_in_line None h = in-missing
optional_int_in_line (Some n) h = int_in_line n h

-- a quote and a backslash
pub quote_or_backslash : (b : ℕ) → b == 34 || b == 92 ≡ true → (32 ≤ b) × (b < 256)
quote_or_backslash b h =
    ⊎_elim (λ (e : b == 34 ≡ true). let i : b ≡ 34 = eqb-true b 34 e in (omega arith, omega arith))
    (λ (e : b == 92 ≡ true). let i : b ≡ 92 = eqb-true b 92 e in (omega arith, omega arith)) (or_cases (b == 34) (b == 92) h)

pub from_space : (b : ℕ) → is_plain b ≡ true → (32 ≤ b) × (b ≤ 126)
from_space b h =
    let range = and_parts _ _ (and_parts _ _ h).0 in
    (leb-true 32 b range.0, leb-true b 126 range.1)

escape_in_line : (b : ℕ) → IsTextByte b → All IsLineByte (escape b)
escape_in_line b h =
    cond_both (b == 34 || b == 92) (92 ∷ b ∷ []) (cond (is_plain b) (b ∷ []) (92 ∷ 120 ∷ hex_glyph (b / 16) ∷ hex_glyph (b % 16) ∷ [])) (All IsLineByte)
    (λ e. behind_byte 92 (b ∷ []) (omega arith) (omega arith) (behind_byte b [] (quote_or_backslash b e).0 (quote_or_backslash b e).1 (All-nil IsLineByte)))
    (λ _. cond_both (is_plain b) (b ∷ []) (92 ∷ 120 ∷ hex_glyph (b / 16) ∷ hex_glyph (b % 16) ∷ []) (All IsLineByte)
    (λ e. behind_byte b [] (from_space b e).0 h.1 (All-nil IsLineByte))
    (λ _. behind_byte 92 (120 ∷ hex_glyph (b / 16) ∷ hex_glyph (b % 16) ∷ []) (omega arith) (omega arith)
    (behind_byte 120 (hex_glyph (b / 16) ∷ hex_glyph (b % 16) ∷ []) (omega arith) (omega arith)
    (All-cons IsLineByte (hex_glyph (b / 16)) (hex_glyph (b % 16) ∷ []) (in-glyph (b / 16) (omega (arith, h.1))) (All-cons IsLineByte (hex_glyph (b % 16)) [] (in-glyph (b % 16) (omega arith)) (All-nil IsLineByte))))))

escapes_in_line : (text : List ℕ) → All IsTextByte text → All IsLineByte (escapes text)
escapes_in_line [] h = All-nil IsLineByte
escapes_in_line (b ∷ text) h = All-append IsLineByte (escape b) (escapes text) (escape_in_line b (All-head IsTextByte b text h)) (escapes_in_line text (All-tail IsTextByte b text h))

pub text_in_line : TextIsInLine
unfolding text_part quoted_text
text_in_line text h =
    behind_byte 32 (34 ∷ (escapes text ++ 34 ∷ [])) (omega arith) (omega arith) (behind_byte 34 (escapes text ++ 34 ∷ []) (omega arith) (omega arith)
    (All-append IsLineByte (escapes text) (34 ∷ []) (escapes_in_line text h) (behind_byte 34 [] (omega arith) (omega arith) (All-nil IsLineByte))))

pub help_in_line : HelpIsInLine
help_in_line None h = in-missing
help_in_line (Some text) h = text_in_line text h
