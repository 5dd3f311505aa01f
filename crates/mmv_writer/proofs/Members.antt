-- How many instances domains have.
use Rattle.std.proofs.Common.{◌≡◌, ℕ, ◌+◌, ◌≤◌, Bool, true, false, List, [], ◌∷◌, length, take, ap, refl, arith, cond, find, Some, None, nat_eq, nat_lt, not, unwrap_or}
use Rattle.std.specs.List.{position, position_or_len}
use Rattle.std.proofs.lemmas.Bool.{ltb-false}
use Rattle.std.proofs.lemmas.List.Sums.{sum_by-take-le, sum_by-cons}
use Rattle.mmv_layout.specs.declared.rows.IndomRow.{IndomRow}
use Rattle.mmv_writer.specs.Offsets.{instances_in}

pub before_fits : (rows : List IndomRow) (i : ℕ) → instances_in (take i rows) ≤ instances_in rows
before_fits rows i = sum_by-take-le (λ row. length row.instances) rows i

pub found_fits : (rows : List IndomRow) (serial : ℕ) (row : IndomRow) → find (λ r. nat_eq r.serial serial) rows ≡ Some row → length row.instances ≤ instances_in rows
found_fits [] serial row h = cc
found_fits (r ∷ rows) serial row h =
    let parts : instances_in (r ∷ rows) ≡ length r.instances + instances_in rows = sum_by-cons (λ x. length x.instances) r rows in
    here (nat_eq r.serial serial) (found_fits rows serial row) parts h
  where
    here : (b : Bool) → (find (λ x. nat_eq x.serial serial) rows ≡ Some row → length row.instances ≤ instances_in rows) → instances_in (r ∷ rows) ≡ length r.instances + instances_in rows → cond b (Some r) (find (λ x. nat_eq x.serial serial) rows) ≡ Some row → length row.instances ≤ instances_in (r ∷ rows)
    here true rest parts h = let same : r ≡ row = cc in let l : length r.instances ≡ length row.instances = ap (λ x. length x.instances) same in omega arith
    here false rest parts h = let l : length row.instances ≤ instances_in rows = rest h in omega arith

pub first_fits : {T : Type 0} (test : T → Bool) (rows : List T) → position_or_len test rows ≤ length rows
first_fits test [] = omega arith
first_fits test (row ∷ rows) = here (test row) (first_fits test rows)
  where
    here : (b : Bool) → position_or_len test rows ≤ length rows → cond (not b) (1 + position_or_len test rows) 0 ≤ length (row ∷ rows)
    here true h = omega arith
    here false h = omega arith

-- the first that passes, or the number of all
pub first_or_len : {T : Type 0} (test : T → Bool) (rows : List T) → unwrap_or (position test rows) (length rows) ≡ position_or_len test rows
first_or_len test rows = here (nat_lt (position_or_len test rows) (length rows)) refl (first_fits test rows)
  where
    here : (b : Bool) → nat_lt (position_or_len test rows) (length rows) ≡ b → position_or_len test rows ≤ length rows → unwrap_or (cond b (Some (position_or_len test rows)) None) (length rows) ≡ position_or_len test rows
    here true e h = refl
    here false e h = let l : length rows ≤ position_or_len test rows = ltb-false (position_or_len test rows) (length rows) e in omega arith
