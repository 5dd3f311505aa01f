-- A quoted text that is written is read again.
use Rattle.std.proofs.Common.{◌≡◌, ℕ, zero, suc, ◌+◌, ◌*◌, ◌/◌, ◌%◌, ◌<◌, ◌≤◌, ◌==◌, ◌&&◌, ◌||◌, not, Bool, true, false, cond, List, [], ◌∷◌, ◌++◌, length, drop, refl, ap, ◌∙◌, arith, append_assoc, Some, None, All, length-append}
use Rattle.std.proofs.lemmas.Bool.{cond_both, or_parts, or_cases, agree_below_at, eqb-true}
use Rattle.std.proofs.lemmas.List.Elements.{All-head, All-tail}
use mathlib.Core.Logic.{⊎_elim}
use Rattle.text_lines.specs.Laws.{IsTextByte, TextIsRead, HelpIsRead}
use Rattle.text_lines.specs.Numbers.{◌>>=◌, is_low_hex, hex_digit}
use Rattle.text_lines.specs.Words.{is_plain, escaped_byte, hex_byte, text_byte, text_within, starts_quoted, starts_missing, text_in_quotes, take_text, take_help}
use Rattle.text_lines.specs.Spelling.{hex_glyph, escape, escapes, quoted_text, text_part}
use Rattle.text_lines.proofs.Quoting.{within_quote, within_byte}

-- what is written of a byte is read as that byte, and no quote begins it
record IsEscape (b : ℕ) (written more : List ℕ) : Type 0 where
  pub unquoted : starts_quoted (written ++ more) ≡ false
  pub is : text_byte (written ++ more) ≡ Some (b, more)
  pub some : 0 < length written

-- a quote or a backslash behind a backslash
behind_backslash : (b : ℕ) (more : List ℕ) → b == 34 || b == 92 ≡ true → IsEscape b (92 ∷ b ∷ []) more
unfolding text_byte
behind_backslash b more h = record {
  unquoted = refl;
  is = ap (λ q. cond q (Some (b, more)) (cond (b == 120) (hex_byte more) None)) h;
  some = omega arith;
}

-- a byte that stands for itself
by_itself : (b : ℕ) (more : List ℕ) → b == 34 ≡ false → b == 92 ≡ false → is_plain b ≡ true → IsEscape b (b ∷ []) more
unfolding text_byte
by_itself b more quote backslash h = record {
  unquoted = quote;
  is = ap (λ q. cond q (escaped_byte more) (cond (is_plain b) (Some (b, more)) None)) backslash ∙ ap (λ q. cond q (Some (b, more)) None) h;
  some = omega arith;
}

-- two digits of a byte other than zero
abbrev digits_test : ℕ → Bool
digits_test b = (is_low_hex (hex_glyph (b / 16)) && is_low_hex (hex_glyph (b % 16))) && not (hex_glyph (b / 16) == 48 && hex_glyph (b % 16) == 48)

abbrev digits_value : ℕ → ℕ
digits_value b = 16 * hex_digit (hex_glyph (b / 16)) + hex_digit (hex_glyph (b % 16))

are_digits : (b : ℕ) → 0 < b → b < 256 → digits_test b ≡ true
are_digits b p h = ⊎_elim (λ (e : b == 0 ≡ true). absurd (omega (arith, eqb-true b 0 e))) (λ (e : digits_test b ≡ true). e) (or_cases (b == 0) (digits_test b) (agree_below_at (λ x. x == 0 || digits_test x) (λ x. true) 256 b refl h))

are_digits_of : (b : ℕ) → b < 256 → digits_value b ≡ b
are_digits_of b h = eqb-true _ _ (agree_below_at (λ x. digits_value x == x) (λ x. true) 256 b refl h)

in_digits : (b : ℕ) (more : List ℕ) → IsTextByte b → IsEscape b (92 ∷ 120 ∷ hex_glyph (b / 16) ∷ hex_glyph (b % 16) ∷ []) more
unfolding text_byte
in_digits b more h = record {
  unquoted = refl;
  is = ap (λ q. cond q (Some (digits_value b, more)) None) (are_digits b h.0 h.1) ∙ ap (λ n. Some (n, more)) (are_digits_of b h.1);
  some = omega arith;
}

is_escape : (b : ℕ) (more : List ℕ) → IsTextByte b → IsEscape b (escape b) more
is_escape b more h =
    cond_both (b == 34 || b == 92) (92 ∷ b ∷ []) (cond (is_plain b) (b ∷ []) (92 ∷ 120 ∷ hex_glyph (b / 16) ∷ hex_glyph (b % 16) ∷ [])) (λ w. IsEscape b w more)
    (behind_backslash b more)
    (λ e. cond_both (is_plain b) (b ∷ []) (92 ∷ 120 ∷ hex_glyph (b / 16) ∷ hex_glyph (b % 16) ∷ []) (λ w. IsEscape b w more)
    (by_itself b more (or_parts (b == 34) (b == 92) e).0 (or_parts (b == 34) (b == 92) e).1)
    (λ _. in_digits b more h))

-- a text is read up to its quote, under any bound above its length
escapes_read : (n : ℕ) (text more : List ℕ) → length text < n → All IsTextByte text → text_within n (escapes text ++ 34 ∷ more) ≡ Some (text, more)
escapes_read zero text more l h = absurd (omega arith)
escapes_read (suc n) [] more l h = within_quote n (34 ∷ more) refl
escapes_read (suc n) (b ∷ text) more l h =
    let rest : List ℕ = escapes text ++ 34 ∷ more in
    let here : IsEscape b (escape b) rest = is_escape b rest (All-head IsTextByte b text h) in
    ap (text_within (suc n)) (append_assoc (escape b) (escapes text) (34 ∷ more))
    ∙ within_byte n (escape b ++ rest) (Some (b, rest)) here.unquoted here.is
    ∙ ap (λ f. f >>= (λ t. Some (b ∷ t.0, t.1))) (escapes_read n text more (omega arith) (All-tail IsTextByte b text h))

length_escapes : (text : List ℕ) → All IsTextByte text → length text ≤ length (escapes text)
length_escapes [] h = omega arith
length_escapes (b ∷ text) h =
    omega (arith, length-append (escape b) (escapes text), (is_escape b [] (All-head IsTextByte b text h)).some, length_escapes text (All-tail IsTextByte b text h))

pub quoted_of : (text more : List ℕ) → All IsTextByte text → text_in_quotes (quoted_text text ++ more) ≡ Some (text, more)
unfolding text_in_quotes quoted_text
quoted_of text more h =
    ap (λ bs. text_within (suc (length bs)) bs) (append_assoc (escapes text) (34 ∷ []) more)
    ∙ escapes_read (suc (length (escapes text ++ 34 ∷ more))) text more (omega (arith, length-append (escapes text) (34 ∷ more), length_escapes text h)) h

pub text_is_read : TextIsRead
unfolding take_text text_part
text_is_read text more h = quoted_of text more h

-- a quote is no `-`
help_there : (bytes : List ℕ) (text more : List ℕ) → starts_missing bytes ≡ false → text_in_quotes bytes ≡ Some (text, more) → take_help (32 ∷ bytes) ≡ Some (Some text, more)
unfolding take_help
help_there bytes text more q e = ap (λ t. cond t (Some (None, drop 1 bytes)) (text_in_quotes bytes >>= (λ u. Some (Some u.0, u.1)))) q ∙ ap (λ f. f >>= (λ u. Some (Some u.0, u.1))) e

quoted_text_starts : (text more : List ℕ) → starts_missing (quoted_text text ++ more) ≡ false
unfolding quoted_text
quoted_text_starts text more = refl

pub help_is_read : HelpIsRead
unfolding take_help text_part
help_is_read None more h = refl
help_is_read (Some text) more h = help_there (quoted_text text ++ more) text more (quoted_text_starts text more) (quoted_of text more h)
