-- Lists of one row for each number below a count, and rows that stand one behind the other.
use Rattle.std.proofs.Common.{◌≡◌, ℕ, zero, suc, ◌+◌, ◌*◌, ◌<◌, List, [], ◌∷◌, ◌++◌, length, length-append, refl, add-one, ap, ap₂, sym, subst, ◌∙◌, arith, ⊎_elim, ◌⊎◌, Contains, map}
use Rattle.std.proofs.lemmas.List.Elements.{Contains-push_cases, Contains-append_left, Contains-append_right}
use Rattle.std.proofs.lemmas.List.{map-append}
use Rattle.mmv_layout.specs.Rows.{list_below}
use Rattle.mmv_layout.specs.Says.{EachAt}

pub rows_none : {X : Type 0} (row : ℕ → X) → list_below 0 row ≡ []
unfolding list_below
rows_none row = refl

pub rows_more : {X : Type 0} (n : ℕ) (row : ℕ → X) → list_below (n + 1) row ≡ list_below n row ++ row n ∷ []
unfolding list_below
rows_more n row = rw add-one

-- the first row, and the others behind it
pub rows_front : {X : Type 0} (n : ℕ) (row : ℕ → X) → list_below (suc n) row ≡ row 0 ∷ list_below n (λ k. row (suc k))
unfolding list_below
rows_front zero row = refl
rows_front (suc n) row = ap (λ rows. rows ++ row (suc n) ∷ []) (rows_front n row)

pub rows_length : {X : Type 0} (n : ℕ) (row : ℕ → X) → length (list_below n row) ≡ n
unfolding list_below
rows_length zero row = refl
rows_length (suc n) row =
    let before : length (list_below n row) ≡ n = rows_length n row in
    length-append (list_below n row) (row n ∷ []) ∙ omega arith

-- rows that agree below the count
pub rows_same : {X : Type 0} (n : ℕ) (row other : ℕ → X) → ((k : ℕ) → k < n → row k ≡ other k) → list_below n row ≡ list_below n other
unfolding list_below
rows_same zero row other same = refl
rows_same (suc n) row other same = ap₂ (λ rows x. rows ++ x ∷ []) (rows_same n row other (λ k h. same k (omega arith))) (same n (omega arith))

next_offset : (at size k : ℕ) → (at + size) + size * k ≡ at + size * suc k
next_offset at size k = omega arith

first_offset : (at size : ℕ) → at ≡ at + size * 0
first_offset at size = omega arith

-- where an offset decides the row that stands there, it decides all rows
pub each_only : {X : Type 0} (R : ℕ → X → Type 0) (row : ℕ → X) (size : ℕ) → ((p : ℕ) (x : X) → R p x → x ≡ row p)
    → (at : ℕ) (rows : List X) → EachAt R at size rows → rows ≡ list_below (length rows) (λ k. row (at + size * k))
unfolding EachAt list_below
each_only R row size only at [] stand = refl
each_only R row size only at (x ∷ xs) stand =
    ap₂ (λ y ys. y ∷ ys) (only at x stand.0 ∙ ap row (first_offset at size))
    (each_only R row size only (at + size) xs stand.1 ∙ rows_same (length xs) _ _ (λ k h. ap row (next_offset at size k)))
    ∙ sym (rows_front (length xs) (λ k. row (at + size * k)))

-- where each row stands at its offset, all do
pub each_there : {X : Type 0} (R : ℕ → X → Type 0) (row : ℕ → X) (size n at : ℕ) → ((k : ℕ) → k < n → R (at + size * k) (row (at + size * k)))
    → EachAt R at size (list_below n (λ k. row (at + size * k)))
unfolding EachAt list_below
each_there R row size zero at each = tt
each_there R row size (suc n) at each =
    subst (EachAt R at size) (sym (rows_front n (λ k. row (at + size * k)))) (
      subst (λ p. R p (row (at + size * 0))) (sym (first_offset at size)) (each 0 (omega arith)),
      subst (EachAt R (at + size) size) (rows_same n (λ k. row ((at + size) + size * k)) (λ k. row (at + size * suc k)) (λ k h. ap row (next_offset at size k)))
          (each_there R row size n (at + size) (λ k h. subst (λ p. R p (row p)) (sym (next_offset at size k)) (each (suc k) (omega arith)))),
    )

-- what is among the rows is one of them
pub among_rows : {X : Type 0} (n : ℕ) (row : ℕ → X) (y : X) → Contains (list_below n row) y → (k : ℕ) × (k < n) × (y ≡ row k)
unfolding list_below
among_rows zero row y (k, below, stands) = absurd (omega arith)
among_rows (suc n) row y h =
    ⊎_elim (λ (before : Contains (list_below n row) y). let (k, below, is) = among_rows n row y before in (k, omega arith, is))
    (λ (last : row n ≡ y). (n, omega arith, sym last)) (Contains-push_cases (list_below n row) (row n) y h)

-- each row is among them
pub row_among : {X : Type 0} (n k : ℕ) (row : ℕ → X) → k < n → Contains (list_below n row) (row k)
unfolding list_below
row_among zero k row below = absurd (omega arith)
row_among (suc n) k row below =
    ⊎_elim (λ (before : k < n). Contains-append_left (list_below n row) (row n ∷ []) (row k) (row_among n k row before))
    (λ (last : k ≡ n). Contains-append_right (list_below n row) (row n ∷ []) (row k) (0, omega arith, ap row (sym last))) (below_suc k n below)
  where
    below_suc : (k n : ℕ) → k < suc n → (k < n) ⊎ (k ≡ n)
    below_suc k n h = grind arith

-- a function of each row
pub rows_mapped : {X Y : Type 0} (f : X → Y) (n : ℕ) (row : ℕ → X) → map f (list_below n row) ≡ list_below n (λ k. f (row k))
unfolding list_below
rows_mapped f zero row = refl
rows_mapped f (suc n) row = map-append f (list_below n row) (row n ∷ []) ∙ ap (λ ys. ys ++ f (row n) ∷ []) (rows_mapped f n row)
