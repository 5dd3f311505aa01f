-- What is read of a quoted text are bytes without a zero byte.
use Rattle.std.proofs.Common.{◌≡◌, ℕ, zero, suc, ◌+◌, ◌*◌, ◌<◌, ◌≤◌, ◌==◌, ◌&&◌, ◌||◌, not, Bool, true, false, cond, nat_lt, List, [], ◌∷◌, length, drop, refl, sym, ap, subst, arith, ltb-true, eqb-true, eq-eqb, Option, Some, None, IfSome, All}
use mathlib.Core.Logic.{◌⊎◌, inl, inr, ⊎_elim}
use Rattle.std.proofs.lemmas.Bool.{and_parts, and_from, or_cases, agree_below_at, not-true}
use Rattle.std.proofs.lemmas.List.Elements.{All-nil, All-cons, All-head, All-tail, All-drop}
use Rattle.text_lines.specs.Laws.{IsLineByte, IsTextByte, TakesOnly, TakesTexts, TakesHelps}
use Rattle.text_lines.specs.Numbers.{◌>>=◌, is_low_hex, hex_digit}
use Rattle.text_lines.specs.Words.{is_plain, hex_byte, escaped_byte, text_byte, text_within, starts_quoted, starts_missing, text_in_quotes, take_space, take_text, take_help}
use Rattle.text_lines.proofs.LineBytes.{quote_or_backslash, from_space}
use Rattle.text_lines.proofs.Taking.{both_steps, passed, either, moved, none_some, space_taken}

-- what a digit of lower case says
abbrev digit_test : ℕ → Bool
digit_test b = not (is_low_hex b) || (nat_lt (hex_digit b) 16 && (nat_lt 0 (hex_digit b) || b == 48))

digit_says : (b : ℕ) → b < 256 → is_low_hex b ≡ true → (nat_lt (hex_digit b) 16 && (nat_lt 0 (hex_digit b) || b == 48)) ≡ true
digit_says b l h =
    ⊎_elim (λ (e : not (is_low_hex b) ≡ true). absurd (let f : is_low_hex b ≡ false = not-true (is_low_hex b) e in cc)) (λ (e : (nat_lt (hex_digit b) 16 && (nat_lt 0 (hex_digit b) || b == 48)) ≡ true). e)
    (or_cases (not (is_low_hex b)) (nat_lt (hex_digit b) 16 && (nat_lt 0 (hex_digit b) || b == 48)) (agree_below_at digit_test (λ x. true) 256 b refl l))

digit_small : (b : ℕ) → b < 256 → is_low_hex b ≡ true → hex_digit b < 16
digit_small b l h = ltb-true (hex_digit b) 16 (and_parts _ _ (digit_says b l h)).0

digit_zero : (b : ℕ) → b < 256 → is_low_hex b ≡ true → (0 < hex_digit b) ⊎ (b ≡ 48)
digit_zero b l h =
    ⊎_elim (λ (e : nat_lt 0 (hex_digit b) ≡ true). inl (ltb-true 0 (hex_digit b) e)) (λ (e : b == 48 ≡ true). inr (eqb-true b 48 e))
    (or_cases (nat_lt 0 (hex_digit b)) (b == 48) (and_parts _ _ (digit_says b l h)).1)

-- two digits other than 00
two_digits : (d e : ℕ) → d < 256 → e < 256 → (is_low_hex d && is_low_hex e) && not (d == 48 && e == 48) ≡ true → IsTextByte (16 * hex_digit d + hex_digit e)
two_digits d e l m h =
    let tests = and_parts (is_low_hex d && is_low_hex e) (not (d == 48 && e == 48)) h in
    let low = and_parts (is_low_hex d) (is_low_hex e) tests.0 in
    let high_small : hex_digit d < 16 = digit_small d l low.0 in
    let low_small : hex_digit e < 16 = digit_small e m low.1 in (
      ⊎_elim (λ (p : 0 < hex_digit d). omega arith)
          (λ (p : d ≡ 48). ⊎_elim (λ (q : 0 < hex_digit e). omega arith)
          (λ (q : e ≡ 48). absurd (let f : (d == 48 && e == 48) ≡ false = not-true _ tests.1 in let t : (d == 48 && e == 48) ≡ true = and_from _ _ (eq-eqb d 48 p) (eq-eqb e 48 q) in cc)) (digit_zero e m low.1))
          (digit_zero d l low.0),
      omega arith,
    )

hex_byte_takes : TakesOnly IsTextByte hex_byte
hex_byte_takes [] left b h e = cc
hex_byte_takes (d ∷ []) left b h e = cc
hex_byte_takes (d ∷ c ∷ bs) left b h e =
    let t = passed ((is_low_hex d && is_low_hex c) && not (d == 48 && c == 48)) (16 * hex_digit d + hex_digit c, bs) (b, left) e in
    let behind = All-tail IsLineByte d (c ∷ bs) h in
    moved IsTextByte (All IsLineByte) (16 * hex_digit d + hex_digit c) b bs left (ap Some t.1)
    (two_digits d c (All-head IsLineByte d (c ∷ bs) h).0 (All-head IsLineByte c bs behind).0 t.0) (All-tail IsLineByte c bs behind)

-- a quote or a backslash behind a backslash
escaped_itself : (c : ℕ) (bs left : List ℕ) (b : ℕ) → All IsLineByte (c ∷ bs) → c == 34 || c == 92 ≡ true → ◌≡◌ {A = Option (ℕ × List ℕ)} (Some (c, bs)) (Some (b, left)) → IsTextByte b × All IsLineByte left
escaped_itself c bs left b h t e =
    let range : (32 ≤ c) × (c < 256) = quote_or_backslash c t in
    let text : IsTextByte c = (omega arith, range.1) in
    moved IsTextByte (All IsLineByte) c b bs left e text (All-tail IsLineByte c bs h)

escaped_byte_takes : TakesOnly IsTextByte escaped_byte
escaped_byte_takes [] left b h e = cc
escaped_byte_takes (c ∷ bs) left b h e =
    ⊎_elim (λ t. escaped_itself c bs left b h t.0 t.1)
    (λ t. ⊎_elim (λ u. hex_byte_takes bs left b (All-tail IsLineByte c bs h) u.1) (λ u. absurd (none_some (b, left) u.1)) (either (c == 120) (hex_byte bs) None (Some (b, left)) t.1))
    (either (c == 34 || c == 92) (Some (c, bs)) (cond (c == 120) (hex_byte bs) None) (Some (b, left)) e)

text_byte_takes : TakesOnly IsTextByte text_byte
unfolding text_byte
text_byte_takes [] left b h e = cc
text_byte_takes (c ∷ bs) left b h e =
    ⊎_elim (λ t. escaped_byte_takes bs left b (All-tail IsLineByte c bs h) t.1)
    (λ t. let u = passed (is_plain c) (c, bs) (b, left) t.1 in
    let low : 32 ≤ c = (from_space c u.0).0 in
    let text : IsTextByte c = (omega arith, (All-head IsLineByte c bs h).0) in
    moved IsTextByte (All IsLineByte) c b bs left (ap Some u.1) text (All-tail IsLineByte c bs h))
    (either (c == 92) (escaped_byte bs) (cond (is_plain c) (Some (c, bs)) None) (Some (b, left)) e)

text_within_takes : (n : ℕ) → TakesOnly (All IsTextByte) (text_within n)
unfolding text_within
text_within_takes zero bytes left text h e = cc
text_within_takes (suc n) bytes left text h e =
    ⊎_elim (λ t. moved (All IsTextByte) (All IsLineByte) [] text (drop 1 bytes) left t.1 (All-nil IsTextByte) (All-drop IsLineByte 1 bytes h))
    (λ t.
    let (b, byte, next) = both_steps (text_byte bytes) (λ b. text_within n b.1 >>= (λ u. Some (b.0 ∷ u.0, u.1))) (text, left) t.1 in
    let (u, within, last) = both_steps (text_within n b.1) (λ u. Some (b.0 ∷ u.0, u.1)) (text, left) next in
    let first = text_byte_takes bytes b.1 b.0 h byte in
    let rest = text_within_takes n b.1 u.1 u.0 first.1 within in
    moved (All IsTextByte) (All IsLineByte) (b.0 ∷ u.0) text u.1 left last (All-cons IsTextByte b.0 u.0 first.0 rest.0) rest.1)
    (either (starts_quoted bytes) (Some ([], drop 1 bytes)) (text_byte bytes >>= (λ b. text_within n b.1 >>= (λ u. Some (b.0 ∷ u.0, u.1)))) (Some (text, left)) e)

pub quoted_takes : TakesOnly (All IsTextByte) text_in_quotes
unfolding text_in_quotes
quoted_takes bytes left text h e =
    ⊎_elim (λ t. text_within_takes (length bytes) (drop 1 bytes) left text (All-drop IsLineByte 1 bytes h) t.1) (λ t. absurd (none_some (text, left) t.1))
    (either (starts_quoted bytes) (text_within (length bytes) (drop 1 bytes)) None (Some (text, left)) e)

-- what stands behind the space of a line's part
pub behind_space : (bytes left : List ℕ) (u : Unit {0}) → take_space bytes ≡ Some (u, left) → All IsLineByte bytes → All IsLineByte left
behind_space bytes left u e h = subst (All IsLineByte) (sym (space_taken bytes left u e)) (All-drop IsLineByte 1 bytes h)

pub takes_texts : TakesTexts
unfolding take_text
takes_texts bytes left text h e =
    let (s, spaced, next) = both_steps (take_space bytes) (λ s. text_in_quotes s.1) (text, left) e in
    quoted_takes s.1 left text (behind_space bytes s.1 s.0 spaced h) next

pub takes_helps : TakesHelps
unfolding take_help
takes_helps bytes left help h e =
    let (s, spaced, next) = both_steps (take_space bytes) (λ s. cond (starts_missing s.1) (Some (None, drop 1 s.1)) (text_in_quotes s.1 >>= (λ t. Some (Some t.0, t.1)))) (help, left) e in
    let behind : All IsLineByte s.1 = behind_space bytes s.1 s.0 spaced h in
    ⊎_elim (λ t. moved (λ x. IfSome x (All IsTextByte)) (All IsLineByte) None help (drop 1 s.1) left t.1 tt (All-drop IsLineByte 1 s.1 behind))
    (λ t. let (u, reads, last) = both_steps (text_in_quotes s.1) (λ u. Some (Some u.0, u.1)) (help, left) t.1 in
    let found = quoted_takes s.1 u.1 u.0 behind reads in
    moved (λ x. IfSome x (All IsTextByte)) (All IsLineByte) (Some u.0) help u.1 left last found.0 found.1)
    (either (starts_missing s.1) (Some (None, drop 1 s.1)) (text_in_quotes s.1 >>= (λ t. Some (Some t.0, t.1))) (Some (help, left)) next)
