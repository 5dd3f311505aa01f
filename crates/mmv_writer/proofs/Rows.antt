-- Lists of rows: what a row more changes.
use Rattle.std.proofs.Common.{◌≡◌, ℕ, zero, suc, ◌<◌, Bool, true, false, ◌&&◌, ◌||◌, ◌⊎◌, inl, inr, List, [], ◌∷◌, ◌++◌, length, ap, sym, subst, ◌∙◌, refl, arith, ⊎_elim, cond, nat_lt, Some}
use Rattle.std.specs.List.{list_any, slice_get}
use Rattle.std.proofs.lemmas.Bool.Decides.{nat_tests}
use Rattle.mmv_layout.specs.Sizes.{has_inline_names, name_room}
use Rattle.mmv_writer.specs.Draft.{Each, Apart}

pub either_left : (a b : Bool) → (a || b) ≡ false → a ≡ false
either_left true b h = cc
either_left false b h = refl

pub either_right : (a b : Bool) → (a || b) ≡ false → b ≡ false
either_right true b h = cc
either_right false b h = h

pub get_snoc : {T : Type 0} (xs : List T) (y x : T) (i : ℕ) → slice_get (xs ++ y ∷ []) i ≡ Some x → (slice_get xs i ≡ Some x) ⊎ ((i ≡ length xs) × (x ≡ y))
get_snoc [] y x zero h = inr (refl, cc)
get_snoc [] y x (suc i) h = cc
get_snoc (z ∷ xs) y x zero h = inl h
get_snoc (z ∷ xs) y x (suc i) h =
    ⊎_elim (λ (there : slice_get xs i ≡ Some x). inl there) (λ (last : (i ≡ length xs) × (x ≡ y)). inr (ap suc last.0, last.1)) (get_snoc xs y x i h)

pub get_below : {T : Type 0} (xs : List T) (x : T) (i : ℕ) → slice_get xs i ≡ Some x → i < length xs
get_below [] x i h = cc
get_below (y ∷ xs) x zero h = omega arith
get_below (y ∷ xs) x (suc i) h = let below : i < length xs = get_below xs x i h in omega arith

pub any_at : {T : Type 0} (test : T → Bool) (xs : List T) (x : T) (i : ℕ) → list_any test xs ≡ false → slice_get xs i ≡ Some x → test x ≡ false
any_at test [] x i none h = cc
any_at test (y ∷ xs) x zero none h = let same : y ≡ x = cc in ap test (sym same) ∙ either_left _ _ none
any_at test (y ∷ xs) x (suc i) none h = any_at test xs x i (either_right _ _ none) h

pub each_snoc : {T : Type 0} (P : T → Type 0) (xs : List T) (y : T) → Each P xs → P y → Each P (xs ++ y ∷ [])
each_snoc P xs y all this i x h =
    ⊎_elim (λ (there : slice_get xs i ≡ Some x). all i x there) (λ (last : (i ≡ length xs) × (x ≡ y)). subst P (sym last.1) this) (get_snoc xs y x i h)

pub apart_snoc : {T : Type 0} (same : T → T → Bool) (xs : List T) (y : T) → Apart same xs → list_any (λ x. same x y) xs ≡ false → Apart same (xs ++ y ∷ [])
apart_snoc same xs y apart none i j a b less at_i at_j =
    ⊎_elim
    (λ (a_there : slice_get xs i ≡ Some a). ⊎_elim
    (λ (b_there : slice_get xs j ≡ Some b). apart i j a b less a_there b_there)
    (λ (b_last : (j ≡ length xs) × (b ≡ y)). ap (same a) b_last.1 ∙ any_at (λ x. same x y) xs a i none a_there)
    (get_snoc xs y b j at_j))
    (λ (a_last : (i ≡ length xs) × (a ≡ y)). ⊎_elim
    (λ (b_there : slice_get xs j ≡ Some b). let below : j < length xs = get_below xs b j b_there in let is : i ≡ length xs = a_last.0 in absurd (omega arith))
    (λ (b_last : (j ≡ length xs) × (b ≡ y)). let is : i ≡ length xs = a_last.0 in let too : j ≡ length xs = b_last.0 in absurd (omega arith))
    (get_snoc xs y b j at_j))
    (get_snoc xs y a i at_i)

pub any_longer : {T : Type 0} (test : T → Bool) (xs ys : List T) → list_any test xs ≡ true → list_any test (xs ++ ys) ≡ true
any_longer test [] ys h = cc
any_longer test (x ∷ xs) ys h = here (test x) (any_longer test xs ys) h
  where
    here : (b : Bool) → (list_any test xs ≡ true → list_any test (xs ++ ys) ≡ true) → (b || list_any test xs) ≡ true → (b || list_any test (xs ++ ys)) ≡ true
    here true rest e = refl
    here false rest e = rest e

pub any_wider : {T : Type 0} (test wide : T → Bool) (xs : List T) → ((x : T) → test x ≡ true → wide x ≡ true) → list_any test xs ≡ true → list_any wide xs ≡ true
any_wider test wide [] w h = cc
any_wider test wide (x ∷ xs) w h = here (test x) (wide x) (w x) (any_wider test wide xs w) h
  where
    here : (a b : Bool) → (a ≡ true → b ≡ true) → (list_any test xs ≡ true → list_any wide xs ≡ true) → (a || list_any test xs) ≡ true → (b || list_any wide xs) ≡ true
    here true b one rest h = ap (λ c. c || list_any wide xs) (one refl)
    here false true one rest h = refl
    here false false one rest h = rest h

-- what is too long for a string is too long for a name
pub too_long : (b : Bool) (version n : ℕ) → nat_lt 255 n ≡ true → false ≡ (b && nat_lt n (name_room version))
unfolding name_room
too_long false version n h = refl
too_long true version n h = here (has_inline_names version)
  where
    here : (inline : Bool) → false ≡ nat_lt n (cond inline 64 256)
    here true = grind (arith, nat_tests)
    here false = grind (arith, nat_tests)
