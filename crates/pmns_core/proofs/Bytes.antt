-- The order of bytes, and fronts of names in it.
use Rattle.std.proofs.Common.{◌≡◌, ℕ, Bool, true, false, ◌||◌, List, [], ◌∷◌, ◌++◌, length, drop, refl, ap, ◌∙◌, subst, inl, inr, ◌⊎◌}
use Rattle.std.specs.declared.cmp.Ordering.{Ordering}
use Rattle.std.specs.declared.cmp.Ordering.TheVariants.{Less, Equal, Greater}
use Rattle.std.specs.Ordering.{nat_cmp, is_eq, is_lt, is_le, ordering_then, ordering_reverse}
use Rattle.std.specs.Cmp.{nat_cmp_total, tied_itself}
use Rattle.std.specs.Cmp.Lexicographic.{nat_list_cmp_total}
use Rattle.std.specs.FinMap.{slice_cmp-IsAntisymmetric, nat_cmp-IsAntisymmetric}
use Rattle.std.specs.List.{starts_with, list_any}
use Rattle.std.specs.Prelude.{nat_eq}
use Rattle.std.specs.Cmp.{unsigned_Decides}
use Rattle.std.proofs.lemmas.Slice.Eq.{starts_is}
use Rattle.pmns_core.specs.Order.{byte_order, is_same, is_before}

pub order_less : (o : Ordering) → is_lt o ≡ true → o ≡ Less
order_less Less h = refl
order_less Equal h = cc h
order_less Greater h = cc h

pub order_equal : (o : Ordering) → is_eq o ≡ true → o ≡ Equal
order_equal Less h = cc h
order_equal Equal h = refl
order_equal Greater h = cc h

pub order_greater : (o : Ordering) → is_lt o ≡ false → is_eq o ≡ false → o ≡ Greater
order_greater Less h g = cc h
order_greater Equal h g = cc g
order_greater Greater h g = refl

-- names that are the same are equal
pub same_name : (a b : List ℕ) → is_same a b ≡ true → a ≡ b
same_name a b h = slice_cmp-IsAntisymmetric nat_cmp-IsAntisymmetric a b (order_equal (byte_order a b) h)

pub same_itself : (a : List ℕ) → byte_order a a ≡ Equal
same_itself a = tied_itself nat_list_cmp_total a

pub before_trans : (a b c : List ℕ) → is_before a b ≡ true → is_before b c ≡ true → is_before a c ≡ true
before_trans a b c h g = ap is_lt (nat_list_cmp_total.trans a b c (order_less (byte_order a b) h) (order_less (byte_order b c) g))

-- of two names that differ, one is before the other
pub before_other : (a b : List ℕ) → is_before a b ≡ false → is_same a b ≡ false → is_before b a ≡ true
before_other a b h g = ap is_lt (nat_list_cmp_total.antisymm b a ∙ ap ordering_reverse (order_greater (byte_order a b) h g))

pub le_itself : (p rest : List ℕ) → is_le (byte_order p (p ++ rest)) ≡ true
le_itself [] [] = refl
le_itself [] (x ∷ rest) = refl
le_itself (c ∷ p) rest = ap (λ o. is_le (ordering_then o (byte_order p (p ++ rest)))) (tied_itself nat_cmp_total c) ∙ le_itself p rest

pub starts_split : (x p : List ℕ) → starts_with nat_eq x p ≡ true → x ≡ p ++ drop (length p) x
starts_split x p h = (starts_is unsigned_Decides x p (starts_with nat_eq x p) refl).0 h

pub starts_join : (x p rest : List ℕ) → x ≡ p ++ rest → starts_with nat_eq x p ≡ true
starts_join x p rest h = (starts_is unsigned_Decides x p (starts_with nat_eq x p) refl).1 rest h

-- a front is not above what begins with it
pub front_le : (p x : List ℕ) → starts_with nat_eq x p ≡ true → is_le (byte_order p x) ≡ true
front_le p x h = ap (λ y. is_le (byte_order p y)) (starts_split x p h) ∙ le_itself p (drop (length p) x)

pub between : (p x rest : List ℕ) → is_le (byte_order p x) ≡ true → is_before x (p ++ rest) ≡ true → (more : List ℕ) × (x ≡ p ++ more)
between [] x rest h g = (x, refl)
between (c ∷ p) [] rest h g = cc h
between (c ∷ p) (d ∷ x) rest h g = by (nat_cmp d c) refl (λ h' g'. between p x rest h' g')
  where
    by : (o : Ordering) → nat_cmp d c ≡ o → (is_le (byte_order p x) ≡ true → is_before x (p ++ rest) ≡ true → (more : List ℕ) × (x ≡ p ++ more)) → (more : List ℕ) × (d ∷ x ≡ c ∷ (p ++ more))
    by Less e again =
        let other : nat_cmp c d ≡ Greater = nat_cmp_total.antisymm c d ∙ ap ordering_reverse e in
        let h' : is_le (ordering_then Greater (byte_order p x)) ≡ true = subst (λ (o : Ordering). is_le (ordering_then o (byte_order p x)) ≡ true) other h in
        cc h'
    by Equal e again =
        let other : nat_cmp c d ≡ Equal = nat_cmp_total.antisymm c d ∙ ap ordering_reverse e in
        let rest' = again (subst (λ (o : Ordering). is_le (ordering_then o (byte_order p x)) ≡ true) other h) (subst (λ (o : Ordering). is_lt (ordering_then o (byte_order x (p ++ rest))) ≡ true) e g) in
        (rest'.0, ap (λ xs. d ∷ xs) rest'.1 ∙ ap (λ n. n ∷ (p ++ rest'.0)) (nat_cmp-IsAntisymmetric d c e))
    by Greater e again =
        let g' : is_lt (ordering_then Greater (byte_order x (p ++ rest))) ≡ true = subst (λ (o : Ordering). is_lt (ordering_then o (byte_order x (p ++ rest))) ≡ true) e g in
        cc g'

-- what lies between a front and a name that begins with it begins with it
pub front_between : (p x y : List ℕ) → is_le (byte_order p x) ≡ true → is_before x y ≡ true → starts_with nat_eq y p ≡ true → starts_with nat_eq x p ≡ true
front_between p x y h g s =
    let b = between p x (drop (length p) y) h (subst (λ (ys : List ℕ). is_before x ys ≡ true) (starts_split y p s) g) in
    starts_join x p b.0 b.1

pub or_cases : (x y : Bool) → (x || y) ≡ true → (x ≡ true) ⊎ (y ≡ true)
or_cases true y h = inl refl
or_cases false y h = inr h

pub or_left : (x y : Bool) → x ≡ true → (x || y) ≡ true
or_left true y h = refl
or_left false y h = cc h

pub or_right : (x y : Bool) → y ≡ true → (x || y) ≡ true
or_right true y h = refl
or_right false y h = h

pub no_then : (b : Bool) → (b ≡ true → ⊥) → b ≡ false
no_then true h = absurd (h refl)
no_then false h = refl

-- a test on some element that a weaker test passes too
pub any_weaker : {X : Type 0} (f g : X → Bool) (xs : List X) → ((x : X) → f x ≡ true → g x ≡ true) → list_any f xs ≡ true → list_any g xs ≡ true
any_weaker f g [] h e = e
any_weaker f g (x ∷ xs) h e = elim (or_cases (f x) (list_any f xs) e) [
  | inl here ↦ or_left (g x) (list_any g xs) (h x here)
  | inr later ↦ or_right (g x) (list_any g xs) (any_weaker f g xs h later)
]
