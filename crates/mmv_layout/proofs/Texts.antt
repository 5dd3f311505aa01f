-- Texts up to a zero byte, one byte after the other, and words of bytes.
use Rattle.std.proofs.Common.{◌≡◌, ◌≢◌, ℕ, zero, suc, ◌+◌, ◌-◌, ◌<◌, ◌≤◌, Bool, true, false, List, [], ◌∷◌, ◌++◌, length, take, drop, ap, sym, ◌∙◌, refl, arith, append_assoc, append-nil, cond, nat_eq, true≢false, get_or, add-zero, ◌⊎◌, ⊎_elim}
use Rattle.pcp_base.specs.Texts.{IsText}
use Rattle.std.proofs.lemmas.Bool.{eqb-false}
use Rattle.std.proofs.lemmas.Bool.Decides.{nat_tests}
use Rattle.std.specs.Int.{w64, from_le_bytes}
use Rattle.mmv_layout.specs.Fields.{byte_at, text_at, has_zero, first_words}
use Rattle.mmv_layout.proofs.Below.{some_absent}

text_none : (words : List ℕ) (at n : ℕ) → n ≡ 0 → text_at words at n ≡ []
unfolding text_at
text_none words at n e = rw e refl

text_more : (words : List ℕ) (at next n m : ℕ) → n ≡ suc m → next ≡ at + 1 → text_at words at n ≡ cond (nat_eq (byte_at words at) 0) [] (byte_at words at ∷ text_at words next m)
unfolding text_at
text_more words at next n m e f = rw (e, f) refl

pub text_stops : (words : List ℕ) (at n : ℕ) → 0 < n → byte_at words at ≡ 0 → text_at words at n ≡ []
text_stops words at n h e = text_more words at (at + 1) n (n - 1) (omega arith) refl ∙ ap (λ b. cond (nat_eq b 0) [] (b ∷ text_at words (at + 1) (n - 1))) e

text_goes : (words : List ℕ) (at next n m : ℕ) → n ≡ suc m → next ≡ at + 1 → nat_eq (byte_at words at) 0 ≡ false → text_at words at n ≡ byte_at words at ∷ text_at words next m
text_goes words at next n m e f z = text_more words at next n m e f ∙ ap (λ t. cond t [] (byte_at words at ∷ text_at words next m)) z

-- what was taken so far is the text where a zero byte follows, or where no byte is left
pub text_ends : (words made whole : List ℕ) (at n : ℕ) → ((0 < n → byte_at words at ≡ 0)) → made ++ text_at words at n ≡ whole → made ≡ whole
text_ends words made whole at zero stop h = sym (append-nil made) ∙ ap (λ t. made ++ t) (sym (text_none words at 0 refl)) ∙ h
text_ends words made whole at (suc n) stop h = sym (append-nil made) ∙ ap (λ t. made ++ t) (sym (text_stops words at (suc n) (omega arith) (stop (omega arith)))) ∙ h

-- one byte more was taken
pub text_grows : (words made whole : List ℕ) (at next n m byte : ℕ) → n ≡ suc m → next ≡ at + 1 → byte ≡ byte_at words at → byte ≢ 0 → made ++ text_at words at n ≡ whole → (made ++ byte ∷ []) ++ text_at words next m ≡ whole
text_grows words made whole at next n m byte e f is z h =
    append_assoc made (byte ∷ []) (text_at words next m) ∙ ap (λ b. made ++ (b ∷ text_at words next m)) is
    ∙ ap (λ t. made ++ t) (sym (text_goes words at next n m e f (isnt_zero byte (byte_at words at) is z))) ∙ h
  where
    isnt_zero : (a b : ℕ) → a ≡ b → a ≢ 0 → nat_eq b 0 ≡ false
    isnt_zero a b e n = grind (arith, nat_tests)

-- no words are left
pub words_end : (made whole bytes : List ℕ) (n : ℕ) → n ≡ 0 → made ++ first_words n bytes ≡ whole → made ≡ whole
unfolding first_words
words_end made whole bytes n e h = sym (append-nil made) ∙ rw e at h

-- one word more was made
pub words_grow : (made whole bytes bytes' : List ℕ) (n m word : ℕ) → n ≡ suc m → word ≡ from_le_bytes w64 (take 8 bytes) → bytes' ≡ drop 8 bytes → made ++ first_words n bytes ≡ whole → (made ++ word ∷ []) ++ first_words m bytes' ≡ whole
unfolding first_words
words_grow made whole bytes bytes' n m word e is rest h =
    append_assoc made (word ∷ []) (first_words m bytes') ∙ rw (is, rest) (rw e at h)

-- no byte of a text is zero
text_nonzero : (words : List ℕ) (at n k d : ℕ) → k < length (text_at words at n) → get_or (text_at words at n) k d ≢ 0
unfolding text_at
text_nonzero words at zero k d h = absurd (omega arith)
text_nonzero words at (suc n) k d h = here (nat_eq (byte_at words at) 0) refl (λ k. text_nonzero words (at + 1) n k d) k h
  where
    here : (t : Bool) → nat_eq (byte_at words at) 0 ≡ t → ((k : ℕ) → k < length (text_at words (at + 1) n) → get_or (text_at words (at + 1) n) k d ≢ 0) → (k : ℕ) → k < length (cond t [] (byte_at words at ∷ text_at words (at + 1) n)) → get_or (cond t [] (byte_at words at ∷ text_at words (at + 1) n)) k d ≢ 0
    here true e rest k h = absurd (omega arith)
    here false e rest zero h = λ z. eqb-false (byte_at words at) 0 e z
    here false e rest (suc k) h = rest k (omega arith)

-- where a text fills its field, no byte of the field is zero
text_full : (words : List ℕ) (at n : ℕ) → n ≤ length (text_at words at n) → (k : ℕ) → k < n → byte_at words (at + k) ≢ 0
unfolding text_at
text_full words at zero h k below = absurd (omega arith)
text_full words at (suc n) h k below = here (nat_eq (byte_at words at) 0) refl (text_full words (at + 1) n) h k below
  where
    moved : (k : ℕ) → (at + 1) + k ≡ at + suc k
    moved k = omega arith

    here : (t : Bool) → nat_eq (byte_at words at) 0 ≡ t → (n ≤ length (text_at words (at + 1) n) → (k : ℕ) → k < n → byte_at words ((at + 1) + k) ≢ 0) → suc n ≤ length (cond t [] (byte_at words at ∷ text_at words (at + 1) n)) → (k : ℕ) → k < suc n → byte_at words (at + k) ≢ 0
    here true e rest h k below = absurd (omega arith)
    here false e rest h zero below = λ z. eqb-false (byte_at words at) 0 e (ap (byte_at words) (sym (add-zero at)) ∙ z)
    here false e rest h (suc k) below = λ z. rest (omega arith) k (omega arith) (ap (byte_at words) (moved k) ∙ z)

isnt_zero : (a : ℕ) → a ≢ 0 → nat_eq a 0 ≡ false
isnt_zero a n = grind (arith, nat_tests)

less_or : (a b : ℕ) → (a < b) ⊎ (b ≤ a)
less_or a b = grind arith

-- a text that ends by a zero byte has fewer bytes than its field
pub text_short : (words : List ℕ) (at n : ℕ) → has_zero words at n ≡ true → length (text_at words at n) < n
unfolding has_zero
text_short words at n h =
    ⊎_elim (λ (less : length (text_at words at n) < n). less)
    (λ (full : n ≤ length (text_at words at n)).
    absurd (true≢false (sym h ∙ some_absent n (λ k. nat_eq (byte_at words (at + k)) 0) (λ k below. isnt_zero (byte_at words (at + k)) (text_full words at n full k below)))))
    (less_or (length (text_at words at n)) n)

pub text_clean : (words : List ℕ) (at n : ℕ) → IsText (text_at words at n)
text_clean words at n = λ k d h. text_nonzero words at n k d h
