-- One more item of a list that a loop writes, place by place.
use Rattle.std.proofs.Common.{◌≡◌, ℕ, ◌+◌, ◌<◌, ◌≤◌, ◌≢◌, List, length, get_or, set, sym, ◌∙◌, subst, arith, get_or-set_other, get_or-set_same}
use Rattle.std.proofs.Common.{⊎_elim}
use Rattle.std.proofs.lemmas.Bool.{cases_lt}
use Rattle.std.proofs.lemmas.List.{get_or_default}

module _ {X : Type 0} where
  -- the places before the next one, and that one
  pub each_set : (R : ℕ → X → X → Type 0) (xs : List X) (i : ℕ) (v : X) → i < length xs → ((k : ℕ) (d : X) → k < i → R k d (get_or xs k d)) → ((d : X) → R i d v)
      → (k : ℕ) (d : X) → k < i + 1 → R k d (get_or (set xs i v) k d)
  each_set R xs i v inside before here k d below = ⊎_elim earlier last (cases_lt k i)
    where
      earlier : k < i → R k d (get_or (set xs i v) k d)
      earlier less = let apart : k ≢ i = omega arith in subst (R k d) (sym (get_or-set_other xs i k v d apart)) (before k d less)

      last : i ≤ k → R k d (get_or (set xs i v) k d)
      last more =
          let same : i ≡ k = omega arith in
          subst (λ m. R m d (get_or (set xs i v) m d)) same (subst (R i d) (sym (get_or-set_same xs i v d inside)) (here d))

  -- the others stay
  pub rest_set : (xs old : List X) (i : ℕ) (v : X) → ((k : ℕ) (d : X) → i ≤ k → get_or xs k d ≡ get_or old k d) → (k : ℕ) (d : X) → i + 1 ≤ k → get_or (set xs i v) k d ≡ get_or old k d
  rest_set xs old i v same k d past =
      let apart : k ≢ i = omega arith in
      let more : i ≤ k = omega arith in
      get_or-set_other xs i k v d apart ∙ same k d more

  -- what was read is the old item
  pub was_old : (xs old : List X) (i : ℕ) (x : X) → i < length old → x ≡ get_or xs i x → ((k : ℕ) (d : X) → i ≤ k → get_or xs k d ≡ get_or old k d) → (d : X) → x ≡ get_or old i d
  was_old xs old i x inside is same d = is ∙ same i x (omega arith) ∙ get_or_default old i x d inside
