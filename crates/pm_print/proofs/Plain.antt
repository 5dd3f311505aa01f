-- A text whose bytes stand for themselves is spelled as it is.
use Rattle.std.proofs.Common.{◌≡◌, ℕ, ◌/◌, ◌%◌, ◌==◌, ◌||◌, Bool, true, false, cond, List, [], ◌∷◌, ◌++◌, refl, ap, ap₂, ◌∙◌}
use Rattle.std.specs.Prelude.{◌&&◌, not, nat_le}
use Rattle.std.specs.List.{list_all}
use Rattle.std.proofs.lemmas.Bool.{and_parts}
use Rattle.text_lines.specs.Spelling.{escape, escapes, hex_glyph}
use Rattle.text_lines.specs.Words.{is_plain}

own : (b : ℕ) → is_plain b ≡ true → escape b ≡ b ∷ []
own b plain = by (b == 34) (b == 92) (nat_le 32 b && nat_le b 126) plain
  where
    by : (q s p : Bool) → p && (not q && not s) ≡ true → cond (q || s) (92 ∷ b ∷ []) (cond (p && (not q && not s)) (b ∷ []) (92 ∷ 120 ∷ hex_glyph (b / 16) ∷ hex_glyph (b % 16) ∷ [])) ≡ b ∷ []
    by true s true e = absurd cc
    by true s false e = absurd cc
    by false true true e = absurd cc
    by false true false e = absurd cc
    by false false true e = refl
    by false false false e = absurd cc

pub spelled : (text : List ℕ) → list_all is_plain text ≡ true → escapes text ≡ text
spelled [] plain = refl
spelled (b ∷ text) plain =
    let both = and_parts (is_plain b) (list_all is_plain text) plain in
    ap₂ (λ (xs ys : List ℕ). xs ++ ys) (own b both.0) (spelled text both.1)
