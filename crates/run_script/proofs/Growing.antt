-- Lists that grow at their end, and what holds of each item and of each pair.
use Rattle.std.proofs.Common.{◌≡◌, ℕ, zero, suc, ◌<◌, ◌≤◌, Bool, true, false, ◌⊎◌, inl, inr, List, [], ◌∷◌, ◌++◌, length, Some, subst, refl, arith}
use Rattle.std.specs.Prelude.{◌&&◌, ◌||◌, not, nat_le, nat_lt, slice_get}
use Rattle.std.specs.List.{list_any}
use Rattle.std.proofs.lemmas.Bool.Decides.{nat_tests}
use Rattle.run_script.specs.Rules.{AtEach, AtPairs}

pub same_some : {A : Type 0} (x y : A) → Some x ≡ Some y → x ≡ y
same_some x y e = cc

pub both : (a b : Bool) → (a && b) ≡ true → (a ≡ true) × (b ≡ true)
both true b h = (refl, h)
both false b h = cc h

pub not_true : (a : Bool) → not a ≡ true → a ≡ false
not_true true h = cc h
not_true false h = refl

neither : (a b : Bool) → (a || b) ≡ false → (a ≡ false) × (b ≡ false)
neither true b h = cc h
neither false b h = (refl, h)

pub le_of : (a b : ℕ) → nat_le a b ≡ true → a ≤ b
le_of a b h = grind (arith, nat_tests)

pub lt_of : (a b : ℕ) → nat_lt a b ≡ true → a < b
lt_of a b h = grind (arith, nat_tests)

pub less_of : (a b : ℕ) → nat_le a b ≡ false → b < a
less_of a b h = grind (arith, nat_tests)

pub get_lt : {A : Type 0} (items : List A) (i : ℕ) (x : A) → slice_get items i ≡ Some x → i < length items
get_lt [] i x h = cc h
get_lt (y ∷ items) zero x h = omega arith
get_lt (y ∷ items) (suc i) x h = let before : i < length items = get_lt items i x h in omega arith

pub get_more : {A : Type 0} (items more : List A) (i : ℕ) (x : A) → slice_get items i ≡ Some x → slice_get (items ++ more) i ≡ Some x
get_more [] more i x h = cc h
get_more (y ∷ items) more zero x h = h
get_more (y ∷ items) more (suc i) x h = get_more items more i x h

-- an item of the longer list is one of the shorter, or the last
abbrev IsOld : {A : Type 0} → List A → ℕ → A → A → Type 0
IsOld items i x y = (slice_get items i ≡ Some y) ⊎ ((i ≡ length items) × (x ≡ y))

one_on : {A : Type 0} (items : List A) (z : A) (i : ℕ) (x y : A) → IsOld items i x y → IsOld (z ∷ items) (suc i) x y
one_on items z i x y (inl old) = inl old
one_on items z i x y (inr new) = inr ((let e : i ≡ length items = new.0 in omega arith), new.1)

get_snoc : {A : Type 0} (items : List A) (x y : A) (i : ℕ) → slice_get (items ++ x ∷ []) i ≡ Some y → IsOld items i x y
get_snoc [] x y zero h = inr (refl, same_some x y h)
get_snoc [] x y (suc i) h = cc h
get_snoc (z ∷ items) x y zero h = inl h
get_snoc (z ∷ items) x y (suc i) h = one_on items z i x y (get_snoc items x y i h)

pub each_snoc : {A : Type 0} (P : A → Type 0) (items : List A) (x : A) → AtEach P items → P x → AtEach P (items ++ x ∷ [])
each_snoc P items x each last i y h = on (get_snoc items x y i h)
  where
    on : IsOld items i x y → P y
    on (inl old) = each i y old
    on (inr new) = subst P new.1 last

pub pairs_snoc : {A : Type 0} (R : A → A → Type 0) (items : List A) (x : A) → AtPairs R items → AtEach (λ a. R a x) items → AtPairs R (items ++ x ∷ [])
pairs_snoc R items x pairs last i j a b less h k = on (get_snoc items x a i h) (get_snoc items x b j k)
  where
    on : IsOld items i x a → IsOld items j x b → R a b
    on (inl first) (inl second) = pairs i j a b less first second
    on (inl first) (inr new) = subst (R a) new.1 (last i a first)
    on (inr first) (inl second) =
        let e : i ≡ length items = first.0 in
        let within : j < length items = get_lt items j b second in
        absurd (omega arith)
    on (inr first) (inr new) =
        let e : i ≡ length items = first.0 in
        let d : j ≡ length items = new.0 in
        absurd (omega arith)

-- what holds of each holds of each in a weaker form
pub each_weaker : {A : Type 0} (P Q : A → Type 0) (items : List A) → ((x : A) → P x → Q x) → AtEach P items → AtEach Q items
each_weaker P Q items go each i x h = go x (each i x h)

-- a test that no item passes
pub none_passes : {A : Type 0} (test : A → Bool) (items : List A) → list_any test items ≡ false → AtEach (λ x. test x ≡ false) items
none_passes test [] h i x e = cc e
none_passes test (y ∷ items) h zero x e = subst (λ z. test z ≡ false) (same_some y x e) (neither (test y) (list_any test items) h).0
none_passes test (y ∷ items) h (suc i) x e = none_passes test items (neither (test y) (list_any test items) h).1 i x e
