-- First rows that pass a test, and the instances of all domains one after the other.
use Rattle.std.proofs.Common.{◌≡◌, ℕ, zero, suc, ◌+◌, ◌-◌, ◌<◌, ◌≤◌, ℤ, Bool, true, false, not, ◌||◌, List, [], ◌∷◌, length, take, ap, sym, ◌∙◌, refl, arith, cond, Some, ⊎_elim, find}
use Rattle.std.specs.List.{list_any, slice_get, position_or_len}
use Rattle.std.proofs.lemmas.Bool.{cases_lt}
use Rattle.std.proofs.lemmas.List.Sums.{sum_by-cons}
use Rattle.mmv_layout.specs.declared.rows.IndomRow.{IndomRow}
use Rattle.mmv_writer.specs.Offsets.{instances_in}

-- a row stands at a position and passes a test
pub record Passes {T : Type 0} (xs : List T) (i : ℕ) (test : T → Bool) : Type 0 where
  pub row : T
  pub at : slice_get xs i ≡ Some row
  pub is : test row ≡ true

one_and : (n : ℕ) → 1 + n ≡ suc n
one_and n = omega arith

passes_next : {T : Type 0} (test : T → Bool) (y : T) (xs : List T) (b : Bool) → test y ≡ b → (list_any test xs ≡ true → Passes xs (position_or_len test xs) test) → (b || list_any test xs) ≡ true → Passes (y ∷ xs) (cond (not b) (1 + position_or_len test xs) 0) test
passes_next test y xs true e rest h = record { row = y; at = refl; is = e }
passes_next test y xs false e rest h = let p = rest h in record { row = p.row; at = ap (slice_get (y ∷ xs)) (one_and (position_or_len test xs)) ∙ p.at; is = p.is }

-- where some row passes, the first that does stands at its position
pub first_passes : {T : Type 0} (test : T → Bool) (xs : List T) → list_any test xs ≡ true → Passes xs (position_or_len test xs) test
first_passes test [] h = cc
first_passes test (y ∷ xs) h = passes_next test y xs (test y) refl (first_passes test xs) h

pub position_is : {T : Type 0} (test : T → Bool) (xs : List T) (i : ℕ) (x : T) → slice_get xs i ≡ Some x → test x ≡ true → ((j : ℕ) (y : T) → j < i → slice_get xs j ≡ Some y → test y ≡ false) → position_or_len test xs ≡ i
position_is test [] i x at is none = cc
position_is test (y ∷ xs) zero x at is none = let same : y ≡ x = cc in ap (λ b. cond (not b) (1 + position_or_len test xs) 0) (ap test same ∙ is)
position_is test (y ∷ xs) (suc i) x at is none =
    ap (λ b. cond (not b) (1 + position_or_len test xs) 0) (none 0 y (omega arith) refl)
    ∙ ap (λ n. 1 + n) (position_is test xs i x at is (λ j z l h. none (suc j) z (omega arith) h)) ∙ one_and i

pub find_at : {T : Type 0} (test : T → Bool) (xs : List T) → find test xs ≡ slice_get xs (position_or_len test xs)
find_at test [] = refl
find_at test (y ∷ xs) = here (test y) (find_at test xs)
  where
    here : (b : Bool) → find test xs ≡ slice_get xs (position_or_len test xs) → cond b (Some y) (find test xs) ≡ slice_get (y ∷ xs) (cond (not b) (1 + position_or_len test xs) 0)
    here true rest = refl
    here false rest = rest ∙ sym (ap (slice_get (y ∷ xs)) (one_and (position_or_len test xs)))

pub get_below : {T : Type 0} (xs : List T) (i : ℕ) (x : T) → slice_get xs i ≡ Some x → i < length xs
get_below [] i x h = cc
get_below (y ∷ xs) zero x h = omega arith
get_below (y ∷ xs) (suc i) x h = let below : i < length xs = get_below xs i x h in omega arith

pub get_some : {T : Type 0} (xs : List T) (i : ℕ) → i < length xs → (x : T) × (slice_get xs i ≡ Some x)
get_some [] i h = absurd (omega arith)
get_some (x ∷ xs) zero h = (x, refl)
get_some (x ∷ xs) (suc i) h = get_some xs i (omega arith)

pub same_row : {T : Type 0} (xs : List T) (i : ℕ) (x y : T) → slice_get xs i ≡ Some x → slice_get xs i ≡ Some y → x ≡ y
same_row xs i x y a b = let e : Some x ≡ Some y = sym a ∙ b in cc

-- the instances of a domain and of those before it
pub before_this : (rows : List IndomRow) (i : ℕ) (row : IndomRow) → slice_get rows i ≡ Some row → instances_in (take i rows) + length row.instances ≤ instances_in rows
before_this [] i row h = cc
before_this (r ∷ rows) zero row h =
    let same : r ≡ row = cc in
    let l : length r.instances ≡ length row.instances = ap (λ x. length x.instances) same in
    let parts : instances_in (r ∷ rows) ≡ length r.instances + instances_in rows = sum_by-cons (λ x. length x.instances) r rows in
    omega arith
before_this (r ∷ rows) (suc i) row h =
    let rest : instances_in (take i rows) + length row.instances ≤ instances_in rows = before_this rows i row h in
    let parts : instances_in (r ∷ rows) ≡ length r.instances + instances_in rows = sum_by-cons (λ x. length x.instances) r rows in
    let taken : instances_in (take (suc i) (r ∷ rows)) ≡ length r.instances + instances_in (take i rows) = sum_by-cons (λ x. length x.instances) r (take i rows) in
    omega arith

-- instance q of all is instance k of domain i
pub record Member (rows : List IndomRow) (q : ℕ) : Type 0 where
  pub i : ℕ
  pub row : IndomRow
  pub k : ℕ
  pub instance : ℤ × List ℕ
  pub at : slice_get rows i ≡ Some row
  pub within : slice_get row.instances k ≡ Some instance
  pub is : q ≡ instances_in (take i rows) + k

pub member : (rows : List IndomRow) (q : ℕ) → q < instances_in rows → Member rows q
member [] q h = absurd (omega arith)
member (r ∷ rows) q h =
    let parts : instances_in (r ∷ rows) ≡ length r.instances + instances_in rows = sum_by-cons (λ x. length x.instances) r rows in
    ⊎_elim
    (λ (here : q < length r.instances).
    let (instance, within) = get_some r.instances q here in
    record { i = 0; row = r; k = q; instance = instance; at = refl; within = within; is = omega arith })
    (λ (later : length r.instances ≤ q).
    let m : Member rows (q - length r.instances) = member rows (q - length r.instances) (omega arith) in
    let is : q - length r.instances ≡ instances_in (take m.i rows) + m.k = m.is in
    let taken : instances_in (take (suc m.i) (r ∷ rows)) ≡ length r.instances + instances_in (take m.i rows) = sum_by-cons (λ x. length x.instances) r (take m.i rows) in
    record { i = suc m.i; row = m.row; k = m.k; instance = m.instance; at = m.at; within = m.within; is = omega arith })
    (cases_lt q (length r.instances))
