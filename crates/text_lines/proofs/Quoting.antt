-- A quoted text that is read byte after byte.
use Rattle.std.proofs.Common.{rules, ◌≡◌, ℕ, suc, ◌+◌, ◌-◌, ◌<◌, ◌≤◌, true, false, cond, List, [], ◌∷◌, ◌++◌, drop, refl, sym, ap, ◌∙◌, arith, append_assoc, append-nil, subst, Option, Some, None}
use Rattle.std.proofs.lemmas.Grind.{common_steps}
use Rattle.pcp_base.specs.Texts.{IsText}
use Rattle.text_lines.specs.Numbers.{◌>>=◌}
use Rattle.text_lines.specs.Words.{text_byte, text_within, starts_quoted}

-- what stands behind bytes read before
abbrev pub behind : List ℕ → Option (List ℕ × List ℕ) → Option (List ℕ × List ℕ)
behind text None = None
behind text (Some t) = Some (text ++ t.0, t.1)

pub behind_nothing : (found : Option (List ℕ × List ℕ)) → behind [] found ≡ found
behind_nothing None = refl
behind_nothing (Some t) = refl

abbrev before : ℕ → Option (List ℕ × List ℕ) → Option (List ℕ × List ℕ)
before b found = found >>= (λ t. Some (b ∷ t.0, t.1))

-- one byte more
behind_more : (text : List ℕ) (b : ℕ) (found : Option (List ℕ × List ℕ)) → behind text (before b found) ≡ behind (text ++ b ∷ []) found
behind_more text b None = refl
behind_more text b (Some t) = ap (λ x. Some (x, t.1)) (sym (append_assoc text (b ∷ []) t.0))

pub within_quote : (n : ℕ) (bytes : List ℕ) → starts_quoted bytes ≡ true → text_within (suc n) bytes ≡ Some ([], drop 1 bytes)
unfolding text_within
within_quote n bytes h = ap (λ q. cond q (Some ([], drop 1 bytes)) (text_byte bytes >>= (λ b. before b.0 (text_within n b.1)))) h

pub within_byte : (n : ℕ) (bytes : List ℕ) (found : Option (ℕ × List ℕ)) → starts_quoted bytes ≡ false → text_byte bytes ≡ found → text_within (suc n) bytes ≡ found >>= (λ b. before b.0 (text_within n b.1))
unfolding text_within
within_byte n bytes found h k =
    ap (λ q. cond q (Some ([], drop 1 bytes)) (text_byte bytes >>= (λ b. before b.0 (text_within n b.1)))) h
    ∙ ap (λ f. f >>= (λ b. before b.0 (text_within n b.1))) k

module _ (whole : Option (List ℕ × List ℕ)) (text : List ℕ) (limit counter : ℕ) (rest : List ℕ) (is : whole ≡ behind text (text_within (limit - counter) rest)) where
  one_less : counter < limit → limit - counter ≡ suc (limit - (counter + 1))
  one_less h = omega arith

  -- the closing quote
  pub ends_text : (after : List ℕ) → counter < limit → starts_quoted rest ≡ true → after ≡ drop 1 rest → whole ≡ Some (text, after)
  ends_text after h q e =
      is ∙ ap (λ n. behind text (text_within n rest)) (one_less h) ∙ ap (behind text) (within_quote (limit - (counter + 1)) rest q)
      ∙ ap (λ t. Some (t, drop 1 rest)) (append-nil text) ∙ ap (λ a. Some (text, a)) (sym e)

  -- a byte that no text has
  pub stops_text : counter < limit → starts_quoted rest ≡ false → text_byte rest ≡ None → whole ≡ None
  stops_text h q e =
      is ∙ ap (λ n. behind text (text_within n rest)) (one_less h) ∙ ap (behind text) (within_byte (limit - (counter + 1)) rest None q e)

  -- a byte of the text
  pub goes_on : (b : ℕ) (after longer : List ℕ) → counter < limit → starts_quoted rest ≡ false → text_byte rest ≡ Some (b, after) → longer ≡ text ++ b ∷ [] → whole ≡ behind longer (text_within (limit - (counter + 1)) after)
  goes_on b after longer h q e l =
      is ∙ ap (λ n. behind text (text_within n rest)) (one_less h) ∙ ap (behind text) (within_byte (limit - (counter + 1)) rest (Some (b, after)) q e)
      ∙ behind_more text b (text_within (limit - (counter + 1)) after) ∙ ap (λ t. behind t (text_within (limit - (counter + 1)) after)) (sym l)

  -- no closing quote
  pub runs_out : limit ≤ counter → whole ≡ None
  unfolding text_within
  runs_out h = is ∙ ap (λ n. behind text (text_within n rest)) (let e : limit - counter ≡ 0 = omega arith in e)

pub text_more : (text longer : List ℕ) (b : ℕ) → IsText text → 0 < b → longer ≡ text ++ b ∷ [] → IsText longer
text_more text longer b h p e = let more : IsText (text ++ b ∷ []) = first_of (search rules, grind (arith, common_steps)) in subst IsText (sym e) more
