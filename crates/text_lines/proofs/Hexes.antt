-- Hexadecimal digits that are written are read again.
use Rattle.std.proofs.Common.{◌≡◌, ℕ, zero, suc, ◌+◌, ◌*◌, ◌/◌, ◌%◌, ◌^◌, ◌<◌, ◌≤◌, ◌==◌, true, cond, nat_le, List, [], ◌∷◌, ◌++◌, length, refl, ap, ap₂, ◌∙◌, arith, Some, None, All, length-append}
use Rattle.std.specs.List.{list_all}
use Rattle.std.proofs.lemmas.Bool.{and_from, agree_below_at, eq-eqb, eqb-true, leb-true}
use Rattle.std.proofs.lemmas.List.Folds.{list_all-append}
use Rattle.std.proofs.lemmas.List.Elements.{All-nil, All-cons, All-append}
use Rattle.text_lines.specs.Numbers.{is_low_hex, is_hex, hex_digit, hex_value, hex_number}
use Rattle.text_lines.specs.Spelling.{hex_glyph, hex_text}

-- a digit of lower case, and its value
pub low_glyph : (d : ℕ) → d < 16 → is_low_hex (hex_glyph d) ≡ true
low_glyph d h = agree_below_at (λ x. is_low_hex (hex_glyph x)) (λ x. true) 16 d refl h

any_glyph : (d : ℕ) → d < 16 → is_hex (hex_glyph d) ≡ true
any_glyph d h = agree_below_at (λ x. is_hex (hex_glyph x)) (λ x. true) 16 d refl h

pub glyph_value : (d : ℕ) → d < 16 → hex_digit (hex_glyph d) ≡ d
glyph_value d h = eqb-true _ _ (agree_below_at (λ x. hex_digit (hex_glyph x) == x) (λ x. true) 16 d refl h)

-- from `0` to `9` or from `a` to `f`
pub glyph_is : (d : ℕ) → d < 16 → (48 ≤ hex_glyph d) × (hex_glyph d ≤ 102)
glyph_is d h = (leb-true _ _ (agree_below_at (λ x. nat_le 48 (hex_glyph x)) (λ x. true) 16 d refl h), leb-true _ _ (agree_below_at (λ x. nat_le (hex_glyph x) 102) (λ x. true) 16 d refl h))

pub length-hex : (count n : ℕ) → length (hex_text count n) ≡ count
unfolding hex_text
length-hex zero n = refl
length-hex (suc k) n = length-append (hex_text k (n / 16)) (hex_glyph (n % 16) ∷ []) ∙ ap (λ m. m + 1) (length-hex k (n / 16)) ∙ omega arith

all_hex : (count n : ℕ) → list_all is_hex (hex_text count n) ≡ true
unfolding hex_text
all_hex zero n = refl
all_hex (suc k) n =
    list_all-append is_hex (hex_text k (n / 16)) (hex_glyph (n % 16) ∷ [])
    ∙ and_from _ _ (all_hex k (n / 16)) (and_from _ _ (any_glyph (n % 16) (omega arith)) refl)

hex_value-append : (before : ℕ) (xs ys : List ℕ) → hex_value before (xs ++ ys) ≡ hex_value (hex_value before xs) ys
hex_value-append before [] ys = refl
hex_value-append before (x ∷ xs) ys = hex_value-append (16 * before + hex_digit x) xs ys

hex_value-text : (count n : ℕ) → n < 16 ^ count → hex_value 0 (hex_text count n) ≡ n
unfolding hex_text
hex_value-text zero n h = omega arith
hex_value-text (suc k) n h =
    hex_value-append 0 (hex_text k (n / 16)) (hex_glyph (n % 16) ∷ [])
    ∙ ap₂ (λ q d. 16 * q + d) (hex_value-text k (n / 16) (omega arith)) (glyph_value (n % 16) (omega arith))
    ∙ omega arith

pub hex_number-text : (count n : ℕ) → n < 16 ^ count → hex_number count (hex_text count n) ≡ Some n
unfolding hex_number
hex_number-text count n h =
    ap (λ q. cond q (Some (hex_value 0 (hex_text count n))) None) (and_from _ _ (eq-eqb _ _ (length-hex count n)) (all_hex count n))
    ∙ ap Some (hex_value-text count n h)

-- each byte is a digit of lower case
pub hex_is : (P : ℕ → Type 0) → ((d : ℕ) → d < 16 → P (hex_glyph d)) → (count n : ℕ) → All P (hex_text count n)
unfolding hex_text
hex_is P p zero n = All-nil P
hex_is P p (suc k) n = All-append P (hex_text k (n / 16)) (hex_glyph (n % 16) ∷ []) (hex_is P p k (n / 16)) (All-cons P (hex_glyph (n % 16)) [] (p (n % 16) (omega arith)) (All-nil P))
