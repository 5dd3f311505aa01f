-- The words that bytes make hold these bytes.
use Rattle.std.proofs.Common.{◌≡◌, ℕ, zero, suc, ◌+◌, ◌*◌, ◌/◌, ◌%◌, ◌^◌, ◌<◌, List, length, take, drop, ap, sym, subst, ◌∙◌, refl, arith, slice_index, ◌⊎◌, ⊎_elim, ap₂}
use Rattle.std.specs.Int.{w64, from_le_bytes}
use Rattle.std.proofs.lemmas.List.{drop-drop, get_or-take, get_or-drop}
use Rattle.mmv_layout.specs.Fields.{number32, number64, byte_at, first_words, words_of}
use Rattle.mmv_layout.specs.ByteLaws.{WordsHoldBytes, NumberHoldsBytes, NumberHoldsHalves}

pub byte_of : (xs : List ℕ) → ((j : ℕ) → j < 8 → slice_index xs j < 256) → (r : ℕ) → r < 8 → from_le_bytes w64 xs / 2 ^ (8 * r) % 256 ≡ slice_index xs r
byte_of xs h zero l = let a = h 0 (omega arith) in omega arith
byte_of xs h (suc zero) l = let a = h 0 (omega arith) in let b = h 1 (omega arith) in omega arith
byte_of xs h (suc (suc zero)) l = let a = h 0 (omega arith) in let b = h 1 (omega arith) in let c = h 2 (omega arith) in omega arith
byte_of xs h (suc (suc (suc zero))) l = let a = h 0 (omega arith) in let b = h 1 (omega arith) in let c = h 2 (omega arith) in let d = h 3 (omega arith) in omega arith
byte_of xs h (suc (suc (suc (suc zero)))) l = let a = h 0 (omega arith) in let b = h 1 (omega arith) in let c = h 2 (omega arith) in let d = h 3 (omega arith) in let e = h 4 (omega arith) in omega arith
byte_of xs h (suc (suc (suc (suc (suc zero))))) l = let a = h 0 (omega arith) in let b = h 1 (omega arith) in let c = h 2 (omega arith) in let d = h 3 (omega arith) in let e = h 4 (omega arith) in let f = h 5 (omega arith) in omega arith
byte_of xs h (suc (suc (suc (suc (suc (suc zero)))))) l = let a = h 0 (omega arith) in let b = h 1 (omega arith) in let c = h 2 (omega arith) in let d = h 3 (omega arith) in let e = h 4 (omega arith) in let f = h 5 (omega arith) in let g = h 6 (omega arith) in omega arith
byte_of xs h (suc (suc (suc (suc (suc (suc (suc zero))))))) l = let a = h 0 (omega arith) in let b = h 1 (omega arith) in let c = h 2 (omega arith) in let d = h 3 (omega arith) in let e = h 4 (omega arith) in let f = h 5 (omega arith) in let g = h 6 (omega arith) in let i = h 7 (omega arith) in omega arith
byte_of xs h (suc (suc (suc (suc (suc (suc (suc (suc r)))))))) l = absurd (omega arith)

pub word_at : (n q : ℕ) (bytes : List ℕ) → q < n → slice_index (first_words n bytes) q ≡ from_le_bytes w64 (take 8 (drop (8 * q) bytes))
unfolding first_words
word_at zero q bytes h = absurd (omega arith)
word_at (suc n) zero bytes h = refl
word_at (suc n) (suc q) bytes h =
    let next : 8 + 8 * q ≡ 8 * suc q = omega arith in
    word_at n q (drop 8 bytes) (omega arith) ∙ ap (λ b. from_le_bytes w64 (take 8 b)) (drop-drop (8 * q) 8 bytes ∙ ap (λ m. drop m bytes) next)

pub words_hold : WordsHoldBytes
unfolding byte_at number64 words_of
words_hold bytes h k below =
    let offset : 8 * (k / 8) + k % 8 ≡ k = omega arith in
    let group : List ℕ = take 8 (drop (8 * (k / 8)) bytes) in
    let at : (j : ℕ) → j < 8 → slice_index group j ≡ slice_index bytes (8 * (k / 8) + j) = λ j l. get_or-take 8 (drop (8 * (k / 8)) bytes) j 0 l ∙ get_or-drop (8 * (k / 8)) bytes j 0 in
    ap (λ w. w / 2 ^ (8 * (k % 8)) % 256) (word_at (length bytes / 8) (k / 8) bytes (omega arith))
    ∙ byte_of group (λ j l. subst (λ b. b < 256) (sym (at j l)) (h (8 * (k / 8) + j))) (k % 8) (omega arith)
    ∙ at (k % 8) (omega arith) ∙ ap (λ m. slice_index bytes m) offset

low_half : (w : ℕ) → w / 2 ^ 0 % 4294967296 ≡ w / 2 ^ 0 % 256 + 256 * (w / 2 ^ 8 % 256) + 65536 * (w / 2 ^ 16 % 256) + 16777216 * (w / 2 ^ 24 % 256)
low_half w = omega arith

high_half : (w : ℕ) → w / 2 ^ 32 % 4294967296 ≡ w / 2 ^ 32 % 256 + 256 * (w / 2 ^ 40 % 256) + 65536 * (w / 2 ^ 48 % 256) + 16777216 * (w / 2 ^ 56 % 256)
high_half w = omega arith

half_is : (at : ℕ) → at % 4 ≡ 0 → (at % 8 ≡ 0) ⊎ (at % 8 ≡ 4)
half_is at h = grind arith

-- byte j of the word in which an offset lies, where it is byte r there
byte_within : (words : List ℕ) (at j b : ℕ) → (at + j) / 8 ≡ at / 8 → 8 * ((at + j) % 8) ≡ b → byte_at words (at + j) ≡ slice_index words (at / 8) / 2 ^ b % 256
unfolding byte_at number64
byte_within words at j b e f = ap (λ q. slice_index words q / 2 ^ (8 * ((at + j) % 8)) % 256) e ∙ ap (λ n. slice_index words (at / 8) / 2 ^ n % 256) f

sum_of : (a b c d e f g h : ℕ) → a ≡ e → b ≡ f → c ≡ g → d ≡ h → a + 256 * b + 65536 * c + 16777216 * d ≡ e + 256 * f + 65536 * g + 16777216 * h
sum_of a b c d e f g h p q r s = omega arith

first_byte : (words : List ℕ) (at b : ℕ) → 8 * (at % 8) ≡ b → byte_at words at ≡ slice_index words (at / 8) / 2 ^ b % 256
unfolding byte_at number64
first_byte words at b f = ap (λ n. slice_index words (at / 8) / 2 ^ n % 256) f

pub number_holds : NumberHoldsBytes
unfolding number32 number64
number_holds words at h =
    let w : ℕ = slice_index words (at / 8) in
    ⊎_elim
    (λ (low : at % 8 ≡ 0). ap (λ n. w / 2 ^ (8 * n) % 4294967296) low ∙ low_half w
    ∙ sym (sum_of _ _ _ _ _ _ _ _ (first_byte words at 0 (omega arith)) (byte_within words at 1 8 (omega arith) (omega arith)) (byte_within words at 2 16 (omega arith) (omega arith)) (byte_within words at 3 24 (omega arith) (omega arith))))
    (λ (high : at % 8 ≡ 4). ap (λ n. w / 2 ^ (8 * n) % 4294967296) high ∙ high_half w
    ∙ sym (sum_of _ _ _ _ _ _ _ _ (first_byte words at 32 (omega arith)) (byte_within words at 1 40 (omega arith) (omega arith)) (byte_within words at 2 48 (omega arith) (omega arith)) (byte_within words at 3 56 (omega arith) (omega arith))))
    (half_is at h)

halves : (w : ℕ) → w < 2 ^ 64 → w ≡ w / 2 ^ 0 % 4294967296 + 4294967296 * (w / 2 ^ 32 % 4294967296)
halves w h = omega arith

pub number_splits : NumberHoldsHalves
unfolding number32 number64
number_splits words at whole fits =
    let w : ℕ = slice_index words (at / 8) in
    let word_same : (at + 4) / 8 ≡ at / 8 = omega arith in
    let shift : 8 * ((at + 4) % 8) ≡ 32 = omega arith in
    halves w fits
    ∙ ap₂ (λ a b. a + 4294967296 * b) (ap (λ n. w / 2 ^ (8 * n) % 4294967296) (sym whole))
    (sym (ap (λ q. slice_index words q / 2 ^ (8 * ((at + 4) % 8)) % 4294967296) word_same ∙ ap (λ n. w / 2 ^ n % 4294967296) shift))
