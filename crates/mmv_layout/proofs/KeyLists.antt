-- Keys that stand one behind another in one list.
use Rattle.std.proofs.Common.{◌≡◌, ℕ, zero, suc, ◌+◌, ◌-◌, ◌<◌, ◌≤◌, ◌⊎◌, List, [], ◌∷◌, ◌++◌, length, take, drop, get_or, ap, sym, ◌∙◌, refl, arith, add-one, append_assoc, append-nil, length-append, ⊎_elim}
use Rattle.std.proofs.Math.Seq.{take-append_seam, drop-append_seam, get_or-append_seam}
use Rattle.std.proofs.lemmas.List.{get_or_append_left}
use Rattle.mmv_layout.proofs.Below.{below_suc}
use Rattle.mmv_layout.specs.declared.keys.Key.{Key}
use Rattle.mmv_layout.specs.Keys.{key_at, keys_before, ends_before}

module _ (words : List ℕ) (key : Key) where
  pub keys_none : keys_before words key 0 ≡ []
  unfolding keys_before
  keys_none = refl

  pub keys_more : (n : ℕ) → keys_before words key (n + 1) ≡ keys_before words key n ++ key_at words key n
  unfolding keys_before
  keys_more n = rw add-one

  pub ends_none : ends_before words key 0 ≡ []
  unfolding ends_before
  ends_none = refl

  pub ends_more : (n : ℕ) → ends_before words key (n + 1) ≡ ends_before words key n ++ length (keys_before words key (n + 1)) ∷ []
  unfolding ends_before
  ends_more n = rw add-one

  pub ends_count : (n : ℕ) → length (ends_before words key n) ≡ n
  unfolding ends_before
  ends_count zero = refl
  ends_count (suc n) =
      let more : length (ends_before words key n ++ length (keys_before words key (suc n)) ∷ []) ≡ length (ends_before words key n) + 1 = length-append (ends_before words key n) (length (keys_before words key (suc n)) ∷ []) in
      let before : length (ends_before words key n) ≡ n = ends_count n in
      omega arith

  -- where a key ends
  end_is : (n i d : ℕ) → i < n → get_or (ends_before words key n) i d ≡ length (keys_before words key (i + 1))
  unfolding ends_before
  end_is zero i d h = absurd (omega arith)
  end_is (suc n) i d h =
      let count : length (ends_before words key n) ≡ n = ends_count n in
      ⊎_elim
      (λ (before : i < n). get_or_append_left (ends_before words key n) (length (keys_before words key (suc n)) ∷ []) d i (omega arith) ∙ end_is n i d before)
      (λ (last : i ≡ n).
      let here : i ≡ length (ends_before words key n) = omega arith in
      let next : suc n ≡ i + 1 = omega arith in
      ap (λ k. get_or (ends_before words key n ++ length (keys_before words key (suc n)) ∷ []) k d) here ∙ get_or-append_seam (ends_before words key n) (length (keys_before words key (suc n))) [] d ∙ ap (λ k. length (keys_before words key k)) next)
      (below_suc i n h)

  pub end_read : (n i end : ℕ) (ends : List ℕ) → i < n → ends ≡ ends_before words key n → end ≡ get_or ends i end → end ≡ length (keys_before words key (i + 1))
  end_read n i end ends h is read = read ∙ ap (λ l. get_or l i end) is ∙ end_is n i end h

  Behind : ℕ → ℕ → Type 0
  Behind n i = (rest : List ℕ) × (keys_before words key n ≡ keys_before words key i ++ rest)

  -- the keys of fewer entries are a front
  behind : (n i : ℕ) → i ≤ n → Behind n i
  unfolding keys_before Behind
  behind zero zero h = ([], refl)
  behind zero (suc i) h = absurd (omega arith)
  behind (suc n) i h =
      ⊎_elim
      (λ (before : i < suc n). let (rest, is) = behind n i (omega arith) in (rest ++ key_at words key n, ap (λ l. l ++ key_at words key n) is ∙ append_assoc (keys_before words key i) rest (key_at words key n)))
      (λ (same : i ≡ suc n). ([], ap (λ k. keys_before words key k) (sym same) ∙ sym (append-nil (keys_before words key i))))
      (less_or i (suc n) h)
    where
      less_or : (a b : ℕ) → a ≤ b → (a < b) ⊎ (a ≡ b)
      less_or a b p = grind arith

  pub keys_length : (i : ℕ) → length (keys_before words key (i + 1)) ≡ length (keys_before words key i) + length (key_at words key i)
  keys_length i = ap length (keys_more i) ∙ length-append (keys_before words key i) (key_at words key i)

  pub keys_within : (n i : ℕ) → i ≤ n → length (keys_before words key i) ≤ length (keys_before words key n)
  unfolding Behind
  keys_within n i h =
      let (rest, is) = behind n i h in
      let parts : length (keys_before words key n) ≡ length (keys_before words key i) + length rest = ap length is ∙ length-append (keys_before words key i) rest in
      omega arith

  -- a key stands between the ends of the one before and its own
  pub key_stands : (n i start end : ℕ) (all : List ℕ) → i < n → all ≡ keys_before words key n → start ≡ length (keys_before words key i) → end ≡ length (keys_before words key (i + 1)) → take (end - start) (drop start all) ≡ key_at words key i
  unfolding Behind
  key_stands n i start end all h whole from to =
      let (rest, is) = behind n (i + 1) (omega arith) in
      let parts : keys_before words key n ≡ keys_before words key i ++ (key_at words key i ++ rest) = is ∙ ap (λ l. l ++ rest) (keys_more i) ∙ append_assoc (keys_before words key i) (key_at words key i) rest in
      let long : length (keys_before words key (i + 1)) ≡ length (keys_before words key i) + length (key_at words key i) = keys_length i in
      let width : end - start ≡ length (key_at words key i) = omega arith in
      ap (λ l. take (end - start) (drop start l)) (whole ∙ parts)
      ∙ ap (λ m. take (end - start) (drop m (keys_before words key i ++ (key_at words key i ++ rest)))) from
      ∙ ap (take (end - start)) (drop-append_seam (keys_before words key i) (key_at words key i ++ rest))
      ∙ ap (λ m. take m (key_at words key i ++ rest)) width
      ∙ take-append_seam (key_at words key i) rest
