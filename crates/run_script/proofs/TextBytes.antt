-- The text at a place, byte by byte, and a text among those of the strings below a count.
use Rattle.std.proofs.Common.{◌≡◌, ◌≢◌, ℕ, zero, suc, ◌+◌, ◌-◌, ◌<◌, ◌≤◌, Bool, true, false, ◌&&◌, ◌||◌, ◌⊎◌, nat_eq, List, [], ◌∷◌, length, ap, ap₂, sym, ◌∙◌, refl, arith, cond, add-one, ⊎_elim, bytes_eq}
use Rattle.std.specs.List.{list_any}
use Rattle.std.proofs.lemmas.List.Folds.{list_any-append}
use Rattle.std.proofs.lemmas.Bool.Decides.{nat_tests}
use Rattle.mmv_layout.specs.Fields.{byte_at, text_at}
use Rattle.mmv_layout.specs.Rows.{list_below}

-- what is left of both, behind so many equal bytes
pub record Agrees (words : List ℕ) (place : ℕ) (text : List ℕ) (k : ℕ) (rest : List ℕ) : Type 0 where
  pub same : bytes_eq (text_at words place 256) text ≡ bytes_eq (text_at words (place + k) (256 - k)) rest

pub agrees_first : (words : List ℕ) (place : ℕ) (text : List ℕ) → Agrees words place text 0 text
agrees_first words place text = record { same = ap (λ n. bytes_eq (text_at words n 256) text) (plus place) }
  where
    plus : (n : ℕ) → n ≡ n + 0
    plus n = omega arith

at_end : (words : List ℕ) (at n : ℕ) → n ≡ 0 → text_at words at n ≡ []
unfolding text_at
at_end words at zero e = refl
at_end words at (suc n) e = absurd (omega arith)

at_zero : (words : List ℕ) (at n : ℕ) → byte_at words at ≡ 0 → text_at words at n ≡ []
unfolding text_at
at_zero words at zero e = refl
at_zero words at (suc n) e = ap (λ b. cond (nat_eq b 0) [] (byte_at words at ∷ text_at words (at + 1) n)) e

isnt_zero : (n : ℕ) → n ≢ 0 → nat_eq n 0 ≡ false
isnt_zero n h = grind (arith, nat_tests)

at_byte : (words : List ℕ) (at n : ℕ) → byte_at words at ≢ 0 → text_at words at (suc n) ≡ byte_at words at ∷ text_at words (at + 1) n
unfolding text_at
at_byte words at n h = ap (λ b. cond b [] (byte_at words at ∷ text_at words (at + 1) n)) (isnt_zero (byte_at words at) h)

nothing_left : (rest : List ℕ) → bytes_eq [] rest ≡ nat_eq (length rest) 0
nothing_left [] = refl
nothing_left (b ∷ rest) = sym (isnt_zero (length (b ∷ rest)) (λ e. absurd (omega arith)))

-- no byte is left of the string
pub agrees_zero : (words : List ℕ) (place : ℕ) (text : List ℕ) (k : ℕ) (rest : List ℕ) → Agrees words place text k rest → byte_at words (place + k) ≡ 0
    → bytes_eq (text_at words place 256) text ≡ nat_eq (length rest) 0
agrees_zero words place text k rest a e = a.same ∙ (ap (λ t. bytes_eq t rest) (at_zero words (place + k) (256 - k) e) ∙ nothing_left rest)

pub agrees_end : (words : List ℕ) (place : ℕ) (text : List ℕ) (k : ℕ) (rest : List ℕ) → Agrees words place text k rest → 256 ≤ k
    → bytes_eq (text_at words place 256) text ≡ nat_eq (length rest) 0
agrees_end words place text k rest a e = a.same ∙ (ap (λ t. bytes_eq t rest) (at_end words (place + k) (256 - k) (omega arith)) ∙ nothing_left rest)

step_on : (words : List ℕ) (place k : ℕ) → k < 256 → byte_at words (place + k) ≢ 0 → text_at words (place + k) (256 - k) ≡ byte_at words (place + k) ∷ text_at words (place + (k + 1)) (256 - (k + 1))
step_on words place k below h =
    ap (text_at words (place + k)) (more k below) ∙ (at_byte words (place + k) (256 - (k + 1)) h ∙ ap (λ n. byte_at words (place + k) ∷ text_at words n (256 - (k + 1))) (plus place k))
  where
    more : (k : ℕ) → k < 256 → 256 - k ≡ suc (256 - (k + 1))
    more k below = omega arith

    plus : (n k : ℕ) → (n + k) + 1 ≡ n + (k + 1)
    plus n k = omega arith

same_byte : (a b : ℕ) → a ≡ b → nat_eq b a ≡ true
same_byte a b h = grind (arith, nat_tests)

other_byte : (a b : ℕ) → (a ≡ b → ⊥) → nat_eq b a ≡ false
other_byte a b h = grind (arith, nat_tests)

-- a byte of the string, and none of the text
pub agrees_short : (words : List ℕ) (place : ℕ) (text : List ℕ) (k : ℕ) (rest : List ℕ) → Agrees words place text k rest → length rest ≡ 0 → k < 256 → byte_at words (place + k) ≢ 0
    → bytes_eq (text_at words place 256) text ≡ false
agrees_short words place text k [] a e below h = a.same ∙ ap (λ t. bytes_eq t []) (step_on words place k below h)
agrees_short words place text k (b ∷ rest) a e below h = absurd (omega arith)

split : (words : List ℕ) (place : ℕ) (text : List ℕ) (k : ℕ) (rest : List ℕ) (first : ℕ) (behind : List ℕ) → Agrees words place text k rest → rest ≡ first ∷ behind → k < 256
    → byte_at words (place + k) ≢ 0 → bytes_eq (text_at words place 256) text ≡ (nat_eq (byte_at words (place + k)) first && bytes_eq (text_at words (place + (k + 1)) (256 - (k + 1))) behind)
split words place text k rest first behind a e below h =
    a.same ∙ (ap (λ r. bytes_eq (text_at words (place + k) (256 - k)) r) e ∙ ap (λ t. bytes_eq t (first ∷ behind)) (step_on words place k below h))

pub agrees_other : (words : List ℕ) (place : ℕ) (text : List ℕ) (k : ℕ) (rest : List ℕ) (first : ℕ) (behind : List ℕ) → Agrees words place text k rest → rest ≡ first ∷ behind → k < 256
    → byte_at words (place + k) ≢ 0 → (first ≡ byte_at words (place + k) → ⊥) → bytes_eq (text_at words place 256) text ≡ false
agrees_other words place text k rest first behind a e below h other =
    split words place text k rest first behind a e below h
    ∙ ap (λ b. b && bytes_eq (text_at words (place + (k + 1)) (256 - (k + 1))) behind) (other_byte first (byte_at words (place + k)) other)

pub agrees_more : (words : List ℕ) (place : ℕ) (text : List ℕ) (k : ℕ) (rest : List ℕ) (first : ℕ) (behind : List ℕ) → Agrees words place text k rest → rest ≡ first ∷ behind → k < 256
    → byte_at words (place + k) ≢ 0 → first ≡ byte_at words (place + k) → Agrees words place text (k + 1) behind
agrees_more words place text k rest first behind a e below h same = record {
  same = split words place text k rest first behind a e below h
      ∙ ap (λ b. b && bytes_eq (text_at words (place + (k + 1)) (256 - (k + 1))) behind) (same_byte first (byte_at words (place + k)) same);
}

-- Among the strings

pub any_none : {X : Type 0} (p : X → Bool) (row : ℕ → X) → list_any p (list_below 0 row) ≡ false
unfolding list_below
any_none p row = refl

one_more : {X : Type 0} (p : X → Bool) (n : ℕ) (row : ℕ → X) → list_any p (list_below (suc n) row) ≡ (list_any p (list_below n row) || p (row n))
unfolding list_below
one_more p n row = list_any-append p (list_below n row) (row n ∷ []) ∙ ap (λ b. list_any p (list_below n row) || b) (or_nothing (p (row n)))
  where
    or_nothing : (b : Bool) → (b || false) ≡ b
    or_nothing true = refl
    or_nothing false = refl

pub any_more : {X : Type 0} (p : X → Bool) (n : ℕ) (row : ℕ → X) → list_any p (list_below n row) ≡ false → p (row n) ≡ false → list_any p (list_below (n + 1) row) ≡ false
any_more p n row none here = ap (λ m. list_any p (list_below m row)) (add-one n) ∙ (one_more p n row ∙ ap₂ (λ a b. a || b) none here)

pub any_found : {X : Type 0} (p : X → Bool) (n k : ℕ) (row : ℕ → X) → k < n → p (row k) ≡ true → list_any p (list_below n row) ≡ true
any_found p zero k row below here = absurd (omega arith)
any_found p (suc n) k row below here =
    one_more p n row ∙ ⊎_elim (λ (before : k < n). ap (λ a. a || p (row n)) (any_found p n k row before here))
    (λ (last : k ≡ n). ap (λ b. list_any p (list_below n row) || b) (ap (λ j. p (row j)) (sym last) ∙ here) ∙ or_true (list_any p (list_below n row)))
    (below_suc k n below)
  where
    or_true : (b : Bool) → (b || true) ≡ true
    or_true true = refl
    or_true false = refl

    below_suc : (k n : ℕ) → k < suc n → (k < n) ⊎ (k ≡ n)
    below_suc k n h = grind arith
