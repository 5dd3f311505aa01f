-- Hexadecimal digits, the last one by itself.
use Rattle.std.proofs.Common.{◌≡◌, ℕ, zero, suc, ◌-◌, ◌/◌, ◌%◌, [], ◌∷◌, ◌++◌, ap, arith, refl}
use Rattle.text_lines.specs.Spelling.{hex_glyph, hex_text}

pub hex_last : (count n : ℕ) → (count ≡ 0 → ⊥) → hex_text (count - 1) (n / 16) ++ hex_glyph (n % 16) ∷ [] ≡ hex_text count n
unfolding hex_text
hex_last zero n h = absurd (h refl)
hex_last (suc k) n h = let e : suc k - 1 ≡ k = omega arith in ap (λ m. hex_text m (n / 16) ++ hex_glyph (n % 16) ∷ []) e
