-- Reading one behind the other, as a loop does.
use Rattle.std.proofs.Common.{◌≡◌, ℕ, suc, ◌-◌, ◌+◌, ◌<◌, ◌≤◌, List, [], ◌∷◌, ◌++◌, length, drop, Option, Some, None, refl, sym, ap, ◌∙◌, append_assoc, arith}
use Rattle.std.proofs.lemmas.List.{drop-drop, drop_all, length-drop, append-nil}
use Rattle.pcp_model.specs.Instances.{◌>>=◌}
use Rattle.archive_meta.specs.Decoding.{first_name, names_from}

-- what was read before, and what is still read
abbrev pub with_front : {A : Type 0} → List A → Option (List A) → Option (List A)
with_front front read = read >>= λ xs. Some (front ++ xs)

regroup : {A : Type 0} (front : List A) (n : A) (read : Option (List A)) → with_front front (read >>= λ xs. Some (n ∷ xs)) ≡ with_front (front ++ n ∷ []) read
regroup front n (Some xs) = ap Some (simp append_assoc)
regroup front n None = refl

pub names_on : (front : List (List ℕ)) (bytes : List ℕ) (count i at : ℕ) (name : List ℕ) (total : Option (List (List ℕ))) → i < count → first_name (drop at bytes) ≡ Some name
    → with_front front (names_from (count - i) (drop at bytes)) ≡ total → with_front (front ++ name ∷ []) (names_from (count - (i + 1)) (drop (at + (4 + length name)) bytes)) ≡ total
unfolding names_from
names_on front bytes count i at name total lt h so_far =
    let k : count - i ≡ suc (count - (i + 1)) = omega arith in
    let next : drop (4 + length name) (drop at bytes) ≡ drop (at + (4 + length name)) bytes = drop-drop (4 + length name) at bytes in
    let one : with_front front (names_from (count - i) (drop at bytes)) ≡ with_front (front ++ name ∷ []) (names_from (count - (i + 1)) (drop (at + (4 + length name)) bytes)) =
    rw (k, h, next) (regroup front name (names_from (count - (i + 1)) (drop (at + (4 + length name)) bytes))) in
    sym one ∙ so_far

pub no_name : (front : List (List ℕ)) (bytes : List ℕ) (count i : ℕ) (total : Option (List (List ℕ))) → i < count → first_name bytes ≡ None → with_front front (names_from (count - i) bytes) ≡ total → total ≡ None
unfolding names_from
no_name front bytes count i total lt h so_far =
    let k : count - i ≡ suc (count - (i + 1)) = omega arith in
    let one : with_front front (names_from (count - i) bytes) ≡ None = rw (k, h) refl in
    sym so_far ∙ one

-- behind the last name nothing stands, or there are no such names
pub names_end : (front : List (List ℕ)) (bytes : List ℕ) (n at : ℕ) (total : Option (List (List ℕ))) → n ≡ 0 → length bytes ≤ at → with_front front (names_from n (drop at bytes)) ≡ total → total ≡ Some front
unfolding names_from
names_end front bytes n at total none end so_far =
    let all : drop at bytes ≡ [] = drop_all at bytes end in
    let one : with_front front (names_from n (drop at bytes)) ≡ Some front = rw (none, all) (ap Some (append-nil front)) in
    sym so_far ∙ one

none_behind : (front : List (List ℕ)) (bytes : List ℕ) → 0 < length bytes → with_front front (names_from 0 bytes) ≡ None
unfolding names_from
none_behind front [] some = absurd (omega arith)
none_behind front (b ∷ bytes) some = refl

pub names_go_on : (front : List (List ℕ)) (bytes : List ℕ) (n at : ℕ) (total : Option (List (List ℕ))) → n ≡ 0 → at < length bytes → with_front front (names_from n (drop at bytes)) ≡ total → total ≡ None
names_go_on front bytes n at total none more so_far =
    sym so_far ∙ ap (λ k. with_front front (names_from k (drop at bytes))) none ∙ none_behind front (drop at bytes) (omega (arith, length-drop at bytes))
