-- What the mark of a tick's line leaves of the others.
use Rattle.std.proofs.Common.{◌≡◌, ◌⊎◌, ⊎_elim, inl, inr, ℕ, ◌+◌, ◌<◌, ◌≤◌, List, [], ◌∷◌, ◌++◌, length, length-append, refl, ap, ◌∙◌, arith}

-- where none is asked for the marks stay, and else one is put behind the others, or alone
abbrev pub Puts : ℕ → ℕ → List ℕ → List ℕ → Type 0
Puts count mark old new =
    ((count ≡ 0) × (new ≡ old)) ⊎ ((0 < count) × (others : List ℕ) × ((others ≡ old) ⊎ (others ≡ [])) × (new ≡ others ++ mark ∷ []))

module _ (count held mark : ℕ) (old new : List ℕ) (none : count ≡ 0 → new ≡ old) (alone : 0 < count → held ≤ 1 → new ≡ mark ∷ []) (behind : 0 < count → 1 < held → new ≡ old ++ mark ∷ []) where
  none_or : (count ≡ 0) ⊎ (0 < count)
  none_or = grind arith

  alone_or : (held ≤ 1) ⊎ (1 < held)
  alone_or = grind arith

  put_some : 0 < count → (held ≤ 1) ⊎ (1 < held) → Puts count mark old new
  put_some some (inl one) = inr (some, [], inr refl, alone some one)
  put_some some (inr more) = inr (some, old, inl refl, behind some more)

  pub put_so : Puts count mark old new
  put_so = ⊎_elim (λ (is : count ≡ 0). inl (is, none is)) (λ (some : 0 < count). put_some some alone_or) none_or

  module _ (was : ℕ) (marked : was ≤ length old) (one : held ≤ was + 1) (idle : count ≡ 0 → held ≤ was) where
    enough_none : count ≡ 0 → held ≤ length new
    enough_none is =
        let same : length new ≡ length old = ap (λ (xs : List ℕ). length xs) (none is) in
        let less : held ≤ was = idle is in
        omega (arith, same, less, marked)

    enough_some : 0 < count → (held ≤ 1) ⊎ (1 < held) → held ≤ length new
    enough_some some (inl is) = let long : length new ≡ length (mark ∷ []) = ap (λ (xs : List ℕ). length xs) (alone some is) in omega (arith, long, is)
    enough_some some (inr more) =
        let long : length new ≡ length old + length (mark ∷ []) = ap (λ (xs : List ℕ). length xs) (behind some more) ∙ length-append old (mark ∷ []) in
        omega (arith, long, one, marked)

    pub put_enough : held ≤ length new
    put_enough = ⊎_elim enough_none (λ (some : 0 < count). enough_some some alone_or) none_or

  few_some : length old < 64 → 0 < count → (held ≤ 1) ⊎ (1 < held) → length new ≤ 64
  few_some room some (inl is) = let long : length new ≡ length (mark ∷ []) = ap (λ (xs : List ℕ). length xs) (alone some is) in omega (arith, long)
  few_some room some (inr more) =
      let long : length new ≡ length old + length (mark ∷ []) = ap (λ (xs : List ℕ). length xs) (behind some more) ∙ length-append old (mark ∷ []) in
      omega (arith, long, room)

  few_none : length old < 64 → count ≡ 0 → length new ≤ 64
  few_none room is = let same : length new ≡ length old = ap (λ (xs : List ℕ). length xs) (none is) in omega (arith, same, room)

  pub put_few : length old < 64 → length new ≤ 64
  put_few room = ⊎_elim (λ (is : count ≡ 0). few_none room is) (λ (some : 0 < count). few_some room some alone_or) none_or
