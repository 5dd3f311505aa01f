-- Facts that hold of each element of a list.
use Rattle.std.proofs.Common.{zero, suc, ◌≡◌, ℕ, List, [], ◌∷◌, ◌++◌, take, ap, ◌∙◌}
use Rattle.std.specs.List.{AllByRecursion}

pub each-append : {X : Type 0} (P : X → Type 0) (xs ys : List X) → AllByRecursion P xs → AllByRecursion P ys → AllByRecursion P (xs ++ ys)
each-append P [] ys first more = more
each-append P (x ∷ xs) ys first more = (first.0, each-append P xs ys first.1 more)

pub each-split : {X : Type 0} (P : X → Type 0) (xs ys : List X) → AllByRecursion P (xs ++ ys) → AllByRecursion P xs × AllByRecursion P ys
each-split P [] ys all = (tt, all)
each-split P (x ∷ xs) ys all =
    let both : AllByRecursion P xs × AllByRecursion P ys = each-split P xs ys all.1 in
    ((all.0, both.0), both.1)

pub each-first : {X : Type 0} (P : X → Type 0) (k : ℕ) (xs : List X) → AllByRecursion P xs → AllByRecursion P (take k xs)
each-first P zero xs all = tt
each-first P (suc k) [] all = tt
each-first P (suc k) (x ∷ xs) all = (all.0, each-first P k xs all.1)

pub each-map : {X : Type 0} (P Q : X → Type 0) → ((x : X) → P x → Q x) → (xs : List X) → AllByRecursion P xs → AllByRecursion Q xs
each-map P Q f [] all = tt
each-map P Q f (x ∷ xs) all = (f x all.0, each-map P Q f xs all.1)

pub each-all : {X : Type 0} (P : X → Type 0) → ((x : X) → P x) → (xs : List X) → AllByRecursion P xs
each-all P f [] = tt
each-all P f (x ∷ xs) = (f x, each-all P f xs)

pub same-cons : {X : Type 0} (x y : X) (xs ys : List X) → x ≡ y → xs ≡ ys → x ∷ xs ≡ y ∷ ys
same-cons x y xs ys one more = ap (λ v. v ∷ xs) one ∙ ap (λ vs. y ∷ vs) more
