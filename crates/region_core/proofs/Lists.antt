-- Lists read by `get_elem?`, and one list patched word by word by another.
use Rattle.std.proofs.Common.{◌≡◌, ◌≢◌, ℕ, zero, suc, ◌<◌, ◌≤◌, List, [], ◌∷◌, ◌++◌, length, get_or, set, take, drop, replicate, sym, refl, ap, arith}
use Rattle.std.specs.Prelude.{Some, slice_get}
use mathlib.Core.Option.{some, some-injective, some-ne-none}
use lib.ListN.{get_elem?}

module _ {A : Type 0} where
  -- what stands at a position is there
  pub at_below : (l : List A) (i : ℕ) (a : A) → get_elem? l i ≡ some a → i < length l
  at_below [] i a e = absurd (some-ne-none a (sym e))
  at_below (x ∷ xs) zero a e = omega arith
  at_below (x ∷ xs) (suc i) a e = let h = at_below xs i a e in omega arith

  -- something stands at each position below the length
  pub at_some : (l : List A) (i : ℕ) → i < length l → (a : A) × (get_elem? l i ≡ some a)
  at_some [] i h = absurd (omega arith)
  at_some (x ∷ xs) zero h = (x, refl)
  at_some (x ∷ xs) (suc i) h = at_some xs i (omega arith)

  -- what was put at a position stands there
  pub set_here : (l : List A) (i : ℕ) (a : A) → i < length l → get_elem? (set l i a) i ≡ some a
  set_here [] i a h = absurd (omega arith)
  set_here (x ∷ xs) zero a h = refl
  set_here (x ∷ xs) (suc i) a h = set_here xs i a (omega arith)

  -- and the other positions are as before
  pub set_else : (l : List A) (i j : ℕ) (a : A) → j ≢ i → get_elem? (set l i a) j ≡ get_elem? l j
  set_else [] i j a n = refl
  set_else (x ∷ xs) zero zero a n = absurd (n refl)
  set_else (x ∷ xs) zero (suc j) a n = refl
  set_else (x ∷ xs) (suc i) zero a n = refl
  set_else (x ∷ xs) (suc i) (suc j) a n = set_else xs i j a (λ e. n (ap suc e))

  -- a position of a longer list
  pub at_longer : (l m : List A) (i : ℕ) (a : A) → get_elem? l i ≡ some a → get_elem? (l ++ m) i ≡ some a
  at_longer [] m i a e = absurd (some-ne-none a (sym e))
  at_longer (x ∷ xs) m zero a e = e
  at_longer (x ∷ xs) m (suc i) a e = at_longer xs m i a e

  -- the position after a list's last
  pub at_seam : (l m : List A) (a : A) → get_elem? (l ++ a ∷ m) (length l) ≡ some a
  at_seam [] m a = refl
  at_seam (x ∷ xs) m a = at_seam xs m a

  -- the items from a position on
  pub drop_at : (l : List A) (i : ℕ) (a : A) → get_elem? l i ≡ some a → drop i l ≡ a ∷ drop (suc i) l
  drop_at [] i a e = absurd (some-ne-none a (sym e))
  drop_at (x ∷ xs) zero a e = λ k. some-injective x a e k ∷ xs
  drop_at (x ∷ xs) (suc i) a e = drop_at xs i a e

  -- each position of copies holds the copy
  pub at_copies : (n : ℕ) (x : A) (i : ℕ) (a : A) → get_elem? (replicate n x) i ≡ some a → x ≡ a
  at_copies zero x i a e = absurd (some-ne-none a (sym e))
  at_copies (suc n) x zero a e = some-injective x a e
  at_copies (suc n) x (suc i) a e = at_copies n x i a e

  -- a front of a front, and what stands between them
  pub take_further : (p q : ℕ) (l : List A) → p ≤ q → (m : List A) × (take q l ≡ take p l ++ m)
  take_further zero q l h = (take q l, refl)
  take_further (suc p) zero l h = absurd (omega arith)
  take_further (suc p) (suc q) [] h = ([], refl)
  take_further (suc p) (suc q) (x ∷ xs) h = let t = take_further p q xs (omega arith) in (t.0, ap (λ (r : List A). x ∷ r) t.1)

  -- one item more
  pub take_next : (l : List A) (p : ℕ) (a : A) → get_elem? l p ≡ some a → take (suc p) l ≡ take p l ++ a ∷ []
  take_next [] p a e = absurd (some-ne-none a (sym e))
  take_next (x ∷ xs) zero a e = λ k. some-injective x a e k ∷ []
  take_next (x ∷ xs) (suc p) a e = ap (λ (r : List A). x ∷ r) (take_next xs p a e)

  -- the two words for an item at a position
  pub at_get : (l : List A) (i : ℕ) (a : A) → slice_get l i ≡ Some a → get_elem? l i ≡ some a
  at_get [] i a e = absurd (cc)
  at_get (x ∷ xs) zero a e = let same : x ≡ a = cc in ap some same
  at_get (x ∷ xs) (suc i) a e = at_get xs i a e

  pub get_at : (l : List A) (i : ℕ) (a : A) → get_elem? l i ≡ some a → slice_get l i ≡ Some a
  get_at [] i a e = absurd (some-ne-none a (sym e))
  get_at (x ∷ xs) zero a e = ap (λ (y : A). Some y) (some-injective x a e)
  get_at (x ∷ xs) (suc i) a e = get_at xs i a e

  -- and the item there
  pub at_or : (l : List A) (i : ℕ) (d : A) → i < length l → get_elem? l i ≡ some (get_or l i d)
  at_or [] i d h = absurd (omega arith)
  at_or (x ∷ xs) zero d h = refl
  at_or (x ∷ xs) (suc i) d h = at_or xs i d (omega arith)

  pub get_or_at : (l : List A) (i : ℕ) (a : A) → get_elem? l i ≡ some a → get_or l i a ≡ a
  get_or_at [] i a e = refl
  get_or_at (x ∷ xs) zero a e = some-injective x a e
  get_or_at (x ∷ xs) (suc i) a e = get_or_at xs i a e
