-- The last of a list.
use Rattle.std.proofs.Common.{◌≡◌, ℕ, List, [], ◌∷◌, ◌++◌, length, slice_get, option_to_list, IfSome, refl, sym, subst, Option, Some, None}

last_at : {A : Type 0} (xs : List A) (x : A) → slice_get (xs ++ x ∷ []) (length xs) ≡ Some x
last_at [] x = refl
last_at (y ∷ ys) x = last_at ys x

pub last_holds : {A : Type 0} (F : A → Type 0) (old new : List A) (r : Option A) → old ≡ new ++ option_to_list r → ((i : ℕ) (x : A) → slice_get old i ≡ Some x → F x) → IfSome r F
last_holds F old new None e all = tt
last_holds F old new (Some x) e all = all (length new) x (subst (λ (l : List _). slice_get l (length new) ≡ Some x) (sym e) (last_at new x))
