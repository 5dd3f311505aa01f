-- The first misfits of a label's fields.
use Rattle.std.proofs.Common.{zero, suc, ◌≡◌, ◌≢◌, ◌⊎◌, inl, inr, ℕ, ◌+◌, ◌-◌, ◌*◌, ◌/◌, ◌<◌, ◌≤◌, List, [], ◌∷◌, ◌++◌, length, get_or, take, drop, refl, sym, ap, ◌∙◌, subst, arith}
use Rattle.std.specs.Int.{w32, from_be_bytes}
use Rattle.std.proofs.lemmas.Bool.{cases_lt}
use Rattle.std.proofs.lemmas.List.{take_all, take-take, take-append-le, take-append-drop, length-append, length-take, length-drop, length-take-le, get_or-take, get_or-drop, get_or_past, get_or_append_left, get_or-append_right, get_or-replicate, get_or_at, length-replicate, drop_more, get_or_default}
use Rattle.std.proofs.lemmas.List.Elements.{All-nil, All-cons}
use Rattle.std.proofs.lemmas.Nat.{be_bytes_4}
use Rattle.pcp_base.specs.Fields.{number_at}
use Rattle.pcp_base.proofs.Bytes.{IsBytes}
use Rattle.pcp_base.specs.Texts.{IsText, IsFirstZero}
use Rattle.pcp_model.specs.Words.{word, length-word, zeros}
use Rattle.pcp_model.specs.Labels.{HasText}
use Rattle.archive_frame.specs.Misfits.{BeginsOne, IsFirstMisfit}
use Rattle.archive_frame.specs.Labels.{IsUpTo, IsTextField, IsFieldFault}
use Rattle.archive_frame.proofs.Misfits.{HasWidth, none_so_long}
use Rattle.archive_frame.specs.declared.fault.FrameFault.TheVariants.{Label}
use Rattle.archive_frame.proofs.Records.{word_at}

-- ---- bytes that are given

pub wanted_wide : (wanted : List ℕ) → HasWidth (λ t. t ≡ wanted) (length wanted)
wanted_wide wanted t e = ap length e

wanted_longest : (wanted f : List ℕ) (k : ℕ) → (length f ≤ k) ⊎ ((k < length f) × (get_or f k 0 ≢ get_or wanted k 0)) → (n : ℕ) → n ≤ length f → BeginsOne (λ t. t ≡ wanted) (take n f) → n ≤ k
wanted_longest wanted f k (inl short) n h b = omega arith
wanted_longest wanted f k (inr differs) n h b =
    elim (cases_lt k n) [
      | inl lt ↦ let long : k < length (take n f) = omega (arith, length-take n f) in
          absurd (differs.1 (sym (get_or-take n f k 0 lt) ∙ sym (get_or_append_left (take n f) b.0 0 k long) ∙ ap (λ t. get_or t k 0) b.1))
      | inr le ↦ le
    ]

pub wanted_misfit : (wanted f : List ℕ) (k : ℕ) → k < length wanted → k ≤ length f → take k f ≡ take k wanted → (length f ≤ k) ⊎ ((k < length f) × (get_or f k 0 ≢ get_or wanted k 0))
    → IsFirstMisfit (λ t. t ≡ wanted) f k
wanted_misfit wanted f k some within same stops =
    let longest = wanted_longest wanted f k stops in
    record {
      none = none_so_long (λ t. t ≡ wanted) (length wanted) f k (wanted_wide wanted) some longest;
      within = within;
      begins = (drop k wanted, ap (λ t. t ++ drop k wanted) same ∙ take-append-drop k wanted);
      longest = longest;
    }

-- ---- words of at most a number

pub word_wide : (most : ℕ) → HasWidth (IsUpTo most) 4
word_wide most t u = ap length u.2 ∙ length-word u.0

-- the least number whose word begins with the first bytes
abbrev pub least : ℕ → List ℕ → ℕ
least k f = from_be_bytes w32 (take k f ++ zeros (4 - k))

least_bytes : (k : ℕ) (f : List ℕ) → IsBytes f → k ≤ length f → IsBytes (take k f ++ zeros (4 - k))
least_bytes k f fits h i =
    let long : length (take k f) ≡ k = length-take-le k f h in
    elim (cases_lt i k) [
      | inl lt ↦ let low : i < length (take k f) = omega arith in rw (get_or_append_left (take k f) (zeros (4 - k)) 0 i low, get_or-take k f i 0 lt) (fits i)
      | inr le ↦ rw (get_or-append_right (take k f) (zeros (4 - k)) k i 0 long le)
          (elim (cases_lt (i - k) (4 - k)) [
            | inl lt ↦ rw (get_or-replicate {A = ℕ} (4 - k) (i - k) 0 0 lt) (omega arith)
            | inr ge ↦ rw (get_or_past (zeros (4 - k)) (i - k) 0 (omega (arith, length-replicate {A = ℕ} (4 - k) 0))) (omega arith)
          ])
    ]

least_word : (k : ℕ) (f : List ℕ) → IsBytes f → k ≤ length f → k ≤ 4 → take k f ++ zeros (4 - k) ≡ word (least k f)
unfolding word
least_word k f fits h few =
    sym (be_bytes_4 (take k f ++ zeros (4 - k)) (least k f) (omega (arith, length-append (take k f) (zeros (4 - k)), length-take-le k f h, length-replicate {A = ℕ} (4 - k) 0)) (least_bytes k f fits h) refl)

-- the word of a number begins with no greater bytes
least_of_word : (k n : ℕ) → n < 4294967296 → k ≤ 4 → least k (word n) ≤ n
unfolding word
least_of_word zero n h few = omega arith
least_of_word (suc zero) n h few = omega arith
least_of_word (suc (suc zero)) n h few = omega arith
least_of_word (suc (suc (suc zero))) n h few = omega arith
least_of_word (suc (suc (suc (suc zero)))) n h few = omega arith
least_of_word (suc (suc (suc (suc (suc k))))) n h few = absurd (omega arith)

word_longest : (most : ℕ) (f : List ℕ) (k : ℕ) → most < 4294967296 → k < 4 → (length f ≤ k) ⊎ ((k < length f) × (most < least (k + 1) f)) → (n : ℕ) → n ≤ length f → BeginsOne (IsUpTo most) (take n f) → n ≤ k
word_longest most f k low few (inl short) n h b = omega arith
word_longest most f k low few (inr over) n h b =
    elim (cases_lt k n) [
      | inl lt ↦ let m : ℕ = b.1.0 in
          let upto : m ≤ most = b.1.1 in
          let long : k + 1 ≤ length (take n f) = omega (arith, length-take n f) in
          let step : k + 1 ≤ n = omega arith in
          let front : take (k + 1) (word m) ≡ take (k + 1) f = ap (take (k + 1)) (sym b.1.2) ∙ take-append-le (k + 1) (take n f) b.0 long ∙ take-take (k + 1) n f step in
          let same : least (k + 1) (word m) ≡ least (k + 1) f = ap (λ t. from_be_bytes w32 (t ++ zeros (4 - (k + 1)))) front in
          let floor : least (k + 1) (word m) ≤ m = least_of_word (k + 1) m (omega arith) (omega arith) in
          absurd (omega (arith, same, floor, over.1))
      | inr le ↦ le
    ]

word_misfit : (most : ℕ) (f : List ℕ) (k : ℕ) → IsBytes f → most < 4294967296 → k < 4 → k ≤ length f → least k f ≤ most → (length f ≤ k) ⊎ ((k < length f) × (most < least (k + 1) f)) → IsFirstMisfit (IsUpTo most) f k
word_misfit most f k fits low few within upto stops =
    let longest = word_longest most f k low few stops in
    record {
      none = none_so_long (IsUpTo most) 4 f k (word_wide most) few longest;
      within = within;
      begins = (zeros (4 - k), (least k f, upto, least_word k f fits within (omega arith)));
      longest = longest;
    }

padded_in : (k i : ℕ) (f : List ℕ) → k ≤ length f → i < k → get_or (take k f ++ zeros (4 - k)) i 0 ≡ get_or f i 0
padded_in k i f h lt = let low : i < length (take k f) = omega (arith, length-take-le k f h) in get_or_append_left (take k f) (zeros (4 - k)) 0 i low ∙ get_or-take k f i 0 lt

padded_out : (k i : ℕ) (f : List ℕ) → k ≤ length f → k ≤ i → i < 4 → get_or (take k f ++ zeros (4 - k)) i 0 ≡ 0
padded_out k i f h le lt =
    let long : length (take k f) ≡ k = length-take-le k f h in
    let low : i - k < 4 - k = omega arith in get_or-append_right (take k f) (zeros (4 - k)) k i 0 long le ∙ get_or-replicate {A = ℕ} (4 - k) (i - k) 0 0 low

least_1 : (f : List ℕ) → 1 ≤ length f → least 1 f ≡ get_or f 0 0 * 16777216
least_1 f h = omega (arith, padded_in 1 0 f h (omega arith), padded_out 1 1 f h (omega arith) (omega arith), padded_out 1 2 f h (omega arith) (omega arith), padded_out 1 3 f h (omega arith) (omega arith))

least_2 : (f : List ℕ) → 2 ≤ length f → least 2 f ≡ get_or f 0 0 * 16777216 + get_or f 1 0 * 65536
least_2 f h = omega (arith, padded_in 2 0 f h (omega arith), padded_in 2 1 f h (omega arith), padded_out 2 2 f h (omega arith) (omega arith), padded_out 2 3 f h (omega arith) (omega arith))

least_3 : (f : List ℕ) → 3 ≤ length f → least 3 f ≡ get_or f 0 0 * 16777216 + get_or f 1 0 * 65536 + get_or f 2 0 * 256
least_3 f h = omega (arith, padded_in 3 0 f h (omega arith), padded_in 3 1 f h (omega arith), padded_in 3 2 f h (omega arith), padded_out 3 3 f h (omega arith) (omega arith))

least_4 : (f : List ℕ) → 4 ≤ length f → least 4 f ≡ get_or f 0 0 * 16777216 + get_or f 1 0 * 65536 + get_or f 2 0 * 256 + get_or f 3 0
least_4 f h = omega (arith, padded_in 4 0 f h (omega arith), padded_in 4 1 f h (omega arith), padded_in 4 2 f h (omega arith), padded_in 4 3 f h (omega arith))

-- ---- the word's bytes, one after another

module _ (bytes : List ℕ) (at most : ℕ) (fits : IsBytes bytes) (low : most < 4294967296) where
  abbrev field : List ℕ
  field = take 4 (drop at bytes)

  field_fits : IsBytes field
  field_fits i =
      elim (cases_lt i 4) [
        | inl lt ↦ rw (get_or-take 4 (drop at bytes) i 0 lt, get_or-drop at bytes i 0) (fits (at + i))
        | inr le ↦ rw (get_or_past (take 4 (drop at bytes)) i 0 (omega (arith, length-take 4 (drop at bytes)))) (omega arith)
      ]

  digit : (i : ℕ) → i < 4 → get_or field i 0 ≡ get_or bytes (at + i) 0
  digit i lt = get_or-take 4 (drop at bytes) i 0 lt ∙ get_or-drop at bytes i 0

  digit_0 : get_or field 0 0 ≡ get_or bytes at 0
  digit_0 = digit 0 (omega arith) ∙ ap (λ n. get_or bytes n 0) (let e : at + 0 ≡ at = omega arith in e)

  fault_at : (k : ℕ) → k < 4 → at + k ≤ length bytes → least k field ≤ most → (length bytes ≤ at + k) ⊎ ((at + k < length bytes) × (most < least (k + 1) field)) → IsFieldFault (IsUpTo most) 4 bytes at (Label (at + k))
  fault_at k few within upto stops = (
    k,
    refl,
    word_misfit most field k field_fits low few (omega (arith, length-take 4 (drop at bytes), length-drop at bytes)) upto
        (elim stops [
          | inl short ↦ inl (omega (arith, length-take 4 (drop at bytes), length-drop at bytes))
          | inr over ↦ inr (omega (arith, length-take 4 (drop at bytes), length-drop at bytes), over.1)
        ]),
  )

  -- where the word stops fitting at its first byte, its second, its third and its last
  pub first_exit : at ≤ length bytes → (length bytes ≤ at) ⊎ ((at < length bytes) × (most / 16777216 < 0 * 256 + get_or bytes at 0)) → IsFieldFault (IsUpTo most) 4 bytes at (Label at)
  first_exit within stops =
      let here : at + 0 ≡ at = omega arith in
      subst (λ n. IsFieldFault (IsUpTo most) 4 bytes at (Label n)) here
      (fault_at 0 (omega arith) (omega arith) (omega arith)
      (elim stops [
        | inl short ↦ inl (omega arith)
        | inr over ↦ inr (omega arith, omega (arith, over.1, digit_0, least_1 field (omega (arith, length-take 4 (drop at bytes), length-drop at bytes))))
      ]))

  pub second_exit : (first : ℕ) → at < length bytes → first ≡ 0 * 256 + get_or bytes at 0 → first ≤ most / 16777216
      → (length bytes ≤ at + 1) ⊎ ((at + 1 < length bytes) × (most / 65536 < first * 256 + get_or bytes (at + 1) 0)) → IsFieldFault (IsUpTo most) 4 bytes at (Label (at + 1))
  second_exit first within is upto stops =
      let one : 1 ≤ length field = omega (arith, length-take 4 (drop at bytes), length-drop at bytes) in
      fault_at 1 (omega arith) (omega arith) (omega (arith, least_1 field one, digit_0))
      (elim stops [
        | inl short ↦ inl short
        | inr over ↦ inr (over.0, omega (arith, over.1, digit_0, digit 1 (omega arith), least_2 field (omega (arith, length-take 4 (drop at bytes), length-drop at bytes))))
      ])

  pub third_exit : (first second : ℕ) → at + 1 < length bytes → first ≡ 0 * 256 + get_or bytes at 0 → second ≡ first * 256 + get_or bytes (at + 1) 0 → second ≤ most / 65536
      → (length bytes ≤ at + 2) ⊎ ((at + 2 < length bytes) × (most / 256 < second * 256 + get_or bytes (at + 2) 0)) → IsFieldFault (IsUpTo most) 4 bytes at (Label (at + 2))
  third_exit first second within one two upto stops =
      let enough : 2 ≤ length field = omega (arith, length-take 4 (drop at bytes), length-drop at bytes) in
      fault_at 2 (omega arith) (omega arith) (omega (arith, least_2 field enough, digit_0, digit 1 (omega arith)))
      (elim stops [
        | inl short ↦ inl short
        | inr over ↦ inr (over.0, omega (arith, over.1, digit_0, digit 1 (omega arith), digit 2 (omega arith), least_3 field (omega (arith, length-take 4 (drop at bytes), length-drop at bytes))))
      ])

  pub last_exit : (first second third : ℕ) → at + 2 < length bytes → first ≡ 0 * 256 + get_or bytes at 0 → second ≡ first * 256 + get_or bytes (at + 1) 0 → third ≡ second * 256 + get_or bytes (at + 2) 0 → third ≤ most / 256
      → (length bytes ≤ at + 3) ⊎ ((at + 3 < length bytes) × (most < third * 256 + get_or bytes (at + 3) 0)) → IsFieldFault (IsUpTo most) 4 bytes at (Label (at + 3))
  last_exit first second third within one two three upto stops =
      let enough : 3 ≤ length field = omega (arith, length-take 4 (drop at bytes), length-drop at bytes) in
      fault_at 3 (omega arith) (omega arith) (omega (arith, least_3 field enough, digit_0, digit 1 (omega arith), digit 2 (omega arith)))
      (elim stops [
        | inl short ↦ inl short
        | inr over ↦ inr (
          over.0,
          omega (arith, over.1, digit_0, digit 1 (omega arith), digit 2 (omega arith), digit 3 (omega arith), least_4 field (omega (arith, length-take 4 (drop at bytes), length-drop at bytes))),
        )
      ])

  -- and the word that fits
  pub word_there : (first second third n : ℕ) → at + 3 < length bytes → first ≡ 0 * 256 + get_or bytes at 0 → second ≡ first * 256 + get_or bytes (at + 1) 0 → third ≡ second * 256 + get_or bytes (at + 2) 0
      → n ≡ third * 256 + get_or bytes (at + 3) 0 → take 4 (drop at bytes) ≡ word n
  word_there first second third n within one two three four =
      let here : at + 4 ≤ length bytes = omega arith in
      let same : number_at bytes at ≡ n = omega (arith, digit_0, digit 1 (omega arith), digit 2 (omega arith), digit 3 (omega arith)) in
      sym (word_at bytes at fits here) ∙ ap word same

-- ---- texts

pub text_wide : (width : ℕ) → HasWidth (IsTextField width) width
text_wide width t h = h.1.wide

-- before the first zero byte stands a text
zero_in : (x y : List ℕ) → (text more : List ℕ) × (x ++ 0 ∷ y ≡ text ++ 0 ∷ more) × IsText text
zero_in [] y = ([], y, refl, All-nil (λ b. b ≢ 0))
zero_in (zero ∷ x) y = ([], x ++ 0 ∷ y, refl, All-nil (λ b. b ≢ 0))
zero_in (suc b ∷ x) y =
    let t = zero_in x y in (suc b ∷ t.0, t.1, ap (λ z. suc b ∷ z) t.2, All-cons (λ c. c ≢ 0) (suc b) t.0 (λ e. absurd (omega arith)) t.3)

ends_so : (width : ℕ) (x y : List ℕ) → length (x ++ 0 ∷ y) ≡ width → IsTextField width (x ++ 0 ∷ y)
ends_so width x y long = let t = zero_in x y in (t.0, record { wide = long; clean = t.3; ended = (t.1, t.2) })

-- too few bytes
pub text_short : (width : ℕ) (f : List ℕ) → length f < width → IsFirstMisfit (IsTextField width) f (length f)
text_short width f short =
    let longest : (n : ℕ) → n ≤ length f → BeginsOne (IsTextField width) (take n f) → n ≤ length f = λ n h b. h in
    record {
      none = none_so_long (IsTextField width) width f (length f) (text_wide width) short longest;
      within = omega arith;
      begins = (
        0 ∷ zeros (width - length f - 1),
        ends_so width (take (length f) f) (zeros (width - length f - 1))
            (omega (arith, length-append (take (length f) f) (0 ∷ zeros (width - length f - 1)), length-take (length f) f, length-replicate {A = ℕ} (width - length f - 1) 0)),
      );
      longest = longest;
    }

-- no zero byte
no_text : (width : ℕ) (f more : List ℕ) → length f ≡ width → IsText f → IsTextField width (f ++ more) → ⊥
no_text width f more long clean t =
    let whole : length (f ++ more) ≡ width = t.1.wide in
    let ended : f ++ more ≡ t.0 ++ 0 ∷ t.1.ended.0 = t.1.ended.1 in
    let size : length (f ++ more) ≡ length t.0 + suc (length t.1.ended.0) = ap length ended ∙ length-append t.0 (0 ∷ t.1.ended.0) in
    let here : length t.0 < length f = omega (arith, length-append f more) in
    clean (length t.0) 0 here (sym (get_or_append_left f more 0 (length t.0) here) ∙ ap (λ x. get_or x (length t.0) 0) ended ∙ get_or_at t.0 0 t.1.ended.0 0 (length t.0) refl)

pub text_endless : (width : ℕ) (f : List ℕ) → 0 < width → length f ≡ width → IsText f → IsFirstMisfit (IsTextField width) f (width - 1)
text_endless width f some long clean =
    let longest : (n : ℕ) → n ≤ length f → BeginsOne (IsTextField width) (take n f) → n ≤ width - 1 = λ n h b.
    elim (cases_lt n width) [
      | inl lt ↦ omega arith
      | inr le ↦ let all : take n f ≡ f = take_all n f (omega arith) in absurd (no_text width f b.0 long clean (subst (λ x. IsTextField width (x ++ b.0)) all b.1))
    ] in
    record {
      none = none_so_long (IsTextField width) width f (width - 1) (text_wide width) (omega arith) longest;
      within = omega arith;
      begins = (0 ∷ [], ends_so width (take (width - 1) f) [] (omega (arith, length-append (take (width - 1) f) (0 ∷ []), length-take (width - 1) f)));
      longest = longest;
    }

-- a text up to the first zero byte
pub text_found : (width : ℕ) (f : List ℕ) (n : ℕ) → length f ≡ width → IsFirstZero f n → HasText width f (take n f)
text_found width f n long z =
    let here : n < length f = z.within in
    record {
      wide = long;
      clean = λ k d lt.
          let low : k < n = omega (arith, length-take n f) in
          let same : get_or (take n f) k d ≡ get_or f k 0 = get_or-take n f k d low ∙ get_or_default f k d 0 (omega arith) in
          λ e. z.first k low (sym same ∙ e);
      ended = (drop (n + 1) f, sym (take-append-drop n f) ∙ ap (λ t. take n f ++ t) (drop_more f n 0 here ∙ ap (λ b. b ∷ drop (n + 1) f) z.zero));
    }
