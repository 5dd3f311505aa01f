-- What holds of all that is taken, and of what a key leads to.
use Rattle.std.proofs.Common.{◌≡◌, ◌⊎◌, inl, inr, ℕ, Bool, true, false, cond, nat_eq, List, [], ◌∷◌, ◌++◌, Option, Some, None, refl, ap, ◌∙◌, subst, ⊎_elim}
use Rattle.std.specs.Prelude.{option_to_list}
use Rattle.std.specs.List.{AllByRecursion}
use Rattle.std.proofs.lemmas.Bool.{eqb-true, eqb-false}
use Rattle.archive_meta.specs.Facts.{first_under}
use Rattle.archive_meta.specs.Missing.{except_key, values_of_keys}

abbrev pub Among : ℕ → List ℕ → Type 0
Among k [] = ⊥
Among k (x ∷ xs) = (x ≡ k) ⊎ Among k xs

pub among_left : (k : ℕ) (xs ys : List ℕ) → Among k xs → Among k (xs ++ ys)
among_left k (x ∷ xs) ys m = ⊎_elim (λ (e : x ≡ k). inl e) (λ (h : Among k xs). inr (among_left k xs ys h)) m
among_left k [] ys m = absurd m

pub among_right : (k : ℕ) (xs ys : List ℕ) → Among k ys → Among k (xs ++ ys)
among_right k [] ys m = m
among_right k (x ∷ xs) ys m = inr (among_right k xs ys m)

module _ {V : Type 0} where
  pub all_taken : (P : V → Type 0) (leads : ℕ → Option V) (ks : List ℕ) → ((k : ℕ) (v : V) → leads k ≡ Some v → P v) → AllByRecursion P (values_of_keys leads ks)
  all_taken P leads [] h = tt
  all_taken P leads (k ∷ ks) h = by (leads k) refl (all_taken P (except_key k leads) ks left)
    where
      left : (q : ℕ) (v : V) → except_key k leads q ≡ Some v → P v
      left q v e = other (nat_eq k q) e
        where
          other : (b : Bool) → cond b None (leads q) ≡ Some v → P v
          other true f = absurd cc
          other false f = h q v f

      by : (o : Option V) → leads k ≡ o → AllByRecursion P (values_of_keys (except_key k leads) ks) → AllByRecursion P (option_to_list o ++ values_of_keys (except_key k leads) ks)
      by None e more = more
      by (Some v) e more = (h k v e, more)

  all_behind : (P : V → Type 0) (o : Option V) (vs : List V) → AllByRecursion P (option_to_list o ++ vs) → AllByRecursion P vs
  all_behind P None vs a = a
  all_behind P (Some v) vs a = a.1

  -- what holds of all that is taken holds of what a key leads to
  pub of_taken : (P : V → Type 0) (leads : ℕ → Option V) (ks : List ℕ) (k : ℕ) (v : V) → Among k ks → leads k ≡ Some v → AllByRecursion P (values_of_keys leads ks) → P v
  of_taken P leads [] k v m e a = absurd m
  of_taken P leads (x ∷ ks) k v m e a =
      by (nat_eq x k) refl (λ among f. of_taken P (except_key x leads) ks k v among f (all_behind P (leads x) (values_of_keys (except_key x leads) ks) a))
    where
      by : (b : Bool) → nat_eq x k ≡ b → (Among k ks → except_key x leads k ≡ Some v → P v) → P v
      by true f more =
          let here : leads x ≡ Some v = ap leads (eqb-true x k f) ∙ e in
          (subst (λ o. AllByRecursion P (option_to_list o ++ values_of_keys (except_key x leads) ks)) here a).0
      by false f more =
          ⊎_elim (λ (same : x ≡ k). absurd (eqb-false x k f same)) (λ (among : Among k ks). more among (ap (λ b. cond b None (leads k)) f ∙ e)) m

  pub all_map : (P Q : V → Type 0) (vs : List V) → ((v : V) → P v → Q v) → AllByRecursion P vs → AllByRecursion Q vs
  all_map P Q [] f a = tt
  all_map P Q (v ∷ vs) f a = (f v a.0, all_map P Q vs f a.1)

  pub first_is : (key : V → ℕ) (vs : List V) (k : ℕ) (v : V) (P : V → Type 0) → first_under key vs k ≡ Some v → AllByRecursion (λ x. key x ≡ k → P x) vs → (key v ≡ k) × P v
  first_is key [] k v P e a = absurd cc
  first_is key (x ∷ vs) k v P e a = by (nat_eq (key x) k) refl e (λ f. first_is key vs k v P f a.1)
    where
      by : (b : Bool) → nat_eq (key x) k ≡ b → cond b (Some x) (first_under key vs k) ≡ Some v → (first_under key vs k ≡ Some v → (key v ≡ k) × P v) → (key v ≡ k) × P v
      by true f g more =
          let same : x ≡ v = cc in let here : key x ≡ k = eqb-true (key x) k f in
          subst (λ y. (key y ≡ k) × P y) same (here, a.0 here)
      by false f g more = more g
