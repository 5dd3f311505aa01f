-- What a walk leaves behind the next, and what it took so far.
use Rattle.std.proofs.Common.{◌≡◌, ℕ, ℤ, zero, suc, ◌+◌, ◌-◌, ◌<◌, List, [], ◌∷◌, ◌++◌, length, drop, refl, sym, ap, ◌∙◌, append_assoc, arith}
use Rattle.std.specs.Int.{w32, cast_signed}
use Rattle.pcp_base.specs.Typed.{TypedBytes}
use Rattle.pcp_base.specs.declared.result.ValueSet.{ValueSet}
use Rattle.result_form.specs.Shown.{word_in, shown_values, shown_block, shown_blocks, shown_set, set_size, shown_sets}

pub same_next : {B : Type 0} (x y : ℤ) (v w : B) (ps qs : List (ℤ × B)) → x ≡ y → v ≡ w → ps ≡ qs → (x, v) ∷ ps ≡ (y, w) ∷ qs
same_next x y v w ps qs e f g = ap (λ k. (k, v) ∷ ps) e ∙ ap (λ k. (y, k) ∷ ps) f ∙ ap (λ t. (y, w) ∷ t) g

pub values_end : (words : List ℕ) → shown_values 0 words ≡ []
unfolding shown_values
values_end words = refl

pub values_next : (n : ℕ) (words : List ℕ) → (n ≡ 0 → ⊥) → shown_values n words ≡ (cast_signed w32 (word_in words 0), word_in words 4) ∷ shown_values (n - 1) (drop 8 words)
unfolding shown_values
values_next zero words some = absurd (some refl)
values_next (suc n) words some = ap (λ k. (cast_signed w32 (word_in words 0), word_in words 4) ∷ shown_values k (drop 8 words)) (let e : n ≡ suc n - 1 = omega arith in e)

pub blocks_end : (payload words : List ℕ) → shown_blocks payload 0 words ≡ []
unfolding shown_blocks
blocks_end payload words = refl

pub blocks_next : (payload : List ℕ) (n : ℕ) (words : List ℕ) → (n ≡ 0 → ⊥)
    → shown_blocks payload n words ≡ (cast_signed w32 (word_in words 0), shown_block payload (word_in words 4)) ∷ shown_blocks payload (n - 1) (drop 8 words)
unfolding shown_blocks
blocks_next payload zero words some = absurd (some refl)
blocks_next payload (suc n) words some =
    ap (λ k. (cast_signed w32 (word_in words 0), shown_block payload (word_in words 4)) ∷ shown_blocks payload k (drop 8 words)) (let e : n ≡ suc n - 1 = omega arith in e)

pub sets_end : (payload words : List ℕ) → shown_sets payload 0 words ≡ []
unfolding shown_sets
sets_end payload words = refl

pub sets_next : (payload : List ℕ) (n : ℕ) (words : List ℕ) → (n ≡ 0 → ⊥) → shown_sets payload n words ≡ shown_set payload words ∷ shown_sets payload (n - 1) (drop (set_size words) words)
unfolding shown_sets
sets_next payload zero words some = absurd (some refl)
sets_next payload (suc n) words some = ap (λ k. shown_set payload words ∷ shown_sets payload k (drop (set_size words) words)) (let e : n ≡ suc n - 1 = omega arith in e)

pub sets_length : (payload : List ℕ) (n : ℕ) (words : List ℕ) → length (shown_sets payload n words) ≡ n
unfolding shown_sets
sets_length payload zero words = refl
sets_length payload (suc n) words = ap suc (sets_length payload n (drop (set_size words) words))

-- ---- what was taken so far, and what is left

pub taken : {A : Type 0} (front new : List A) (a : A) (next left total : List A) → new ≡ front ++ a ∷ [] → left ≡ a ∷ next → front ++ left ≡ total → new ++ next ≡ total
taken front new a next left total pushed step so_far = ap (λ t. t ++ next) pushed ∙ append_assoc front (a ∷ []) next ∙ ap (λ t. front ++ t) (sym step) ∙ so_far

module _ (count i : ℕ) (lt : i < count) (words rest : List ℕ) where
  some_left : count - i ≡ 0 → ⊥
  some_left h = omega arith

  one_less : count - i - 1 ≡ count - (i + 1)
  one_less = omega arith

  pub values_left : (x : ℤ) (v : ℕ) → x ≡ cast_signed w32 (word_in words 0) → v ≡ word_in words 4 → rest ≡ drop 8 words → shown_values (count - i) words ≡ (x, v) ∷ shown_values (count - (i + 1)) rest
  values_left x v e f g =
      values_next (count - i) words some_left
      ∙ same_next _ x _ v _ _ (sym e) (sym f) (ap (λ n. shown_values n (drop 8 words)) one_less ∙ ap (shown_values (count - (i + 1))) (sym g))

  pub blocks_left : (payload : List ℕ) (x : ℤ) (b : TypedBytes) → x ≡ cast_signed w32 (word_in words 0) → b ≡ shown_block payload (word_in words 4) → rest ≡ drop 8 words
      → shown_blocks payload (count - i) words ≡ (x, b) ∷ shown_blocks payload (count - (i + 1)) rest
  blocks_left payload x b e f g =
      blocks_next payload (count - i) words some_left
      ∙ same_next _ x _ b _ _ (sym e) (sym f) (ap (λ n. shown_blocks payload n (drop 8 words)) one_less ∙ ap (shown_blocks payload (count - (i + 1))) (sym g))

  pub sets_left : (payload : List ℕ) (set : ValueSet) → set ≡ shown_set payload words → rest ≡ drop (set_size words) words → shown_sets payload (count - i) words ≡ set ∷ shown_sets payload (count - (i + 1)) rest
  sets_left payload set e g =
      sets_next payload (count - i) words some_left ∙ ap (λ s. s ∷ shown_sets payload (count - i - 1) (drop (set_size words) words)) (sym e)
      ∙ ap (λ t. set ∷ t) (ap (λ n. shown_sets payload n (drop (set_size words) words)) one_less ∙ ap (shown_sets payload (count - (i + 1))) (sym g))
