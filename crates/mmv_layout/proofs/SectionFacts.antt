-- The section of a type, one contents entry after the other.
use Rattle.std.proofs.Common.{◌≡◌, ℕ, zero, suc, ◌+◌, ◌*◌, ◌/◌, ◌%◌, ◌^◌, ◌<◌, ◌≤◌, ◌⊎◌, false, List, [], ◌∷◌, length, slice_index, ap, sym, ◌∙◌, refl, arith, add-one, cond, nat_eq, ⊎_elim}
use Rattle.std.proofs.lemmas.Bool.Decides.{nat_tests}
use Rattle.mmv_layout.specs.Fields.{number32, number64}
use Rattle.mmv_layout.specs.Contents.{bytes_in, entry_at, type_in, count_in, offset_in, find_section}

pub find_none : (words : List ℕ) (type : ℕ) → find_section words type 0 ≡ record { offset = 0; count = 0 }
unfolding find_section
find_none words type = refl

pub find_more : (words : List ℕ) (type n : ℕ) → find_section words type (n + 1) ≡ cond (nat_eq (type_in words n) type) (record { offset = offset_in words n; count = count_in words n }) (find_section words type n)
unfolding find_section
find_more words type n = rw add-one

past_end : (words : List ℕ) (k : ℕ) → length words ≤ k → slice_index words k ≡ 0
past_end [] zero h = refl
past_end [] (suc k) h = refl
past_end (w ∷ words) zero h = absurd (omega arith)
past_end (w ∷ words) (suc k) h = past_end words k (omega arith)

-- a contents entry behind the end of the words has no type
type_past : (words : List ℕ) (n : ℕ) → bytes_in words ≤ entry_at n → type_in words n ≡ 0
unfolding number32 number64
type_past words n h =
    let aligned : (40 + 16 * n) % 8 ≡ 0 = omega arith in
    ap (λ w. w / 2 ^ (8 * ((40 + 16 * n) % 8)) % 4294967296) (past_end words ((40 + 16 * n) / 8) (omega arith)) ∙ ap (λ r. 0 / 2 ^ (8 * r) % 4294967296) aligned

not_zero : (type t : ℕ) → 0 < type → t ≡ 0 → nat_eq t type ≡ false
not_zero type t some h = grind (arith, nat_tests)

less_or : (a b : ℕ) → a ≤ suc b → (a ≤ b) ⊎ (a ≡ suc b)
less_or a b h = grind arith

-- so no section is found behind it
pub find_past : (words : List ℕ) (type n i : ℕ) → 0 < type → bytes_in words ≤ entry_at i → i ≤ n → find_section words type i ≡ find_section words type n
unfolding find_section
find_past words type zero i some past below = let none : i ≡ 0 = omega arith in ap (find_section words type) none
find_past words type (suc n) i some past below =
    ⊎_elim
    (λ (before : i ≤ n).
    find_past words type n i some past before
    ∙ sym (ap (λ t. cond t (record { offset = offset_in words n; count = count_in words n }) (find_section words type n)) (not_zero type (type_in words n) some (type_past words n (further before)))))
    (λ (last : i ≡ suc n). ap (find_section words type) last) (less_or i n below)
  where
    further : i ≤ n → bytes_in words ≤ entry_at n
    further le = omega arith
