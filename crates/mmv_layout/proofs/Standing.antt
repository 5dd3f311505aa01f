-- Which offsets are those of entries of one size.
use Rattle.std.proofs.Common.{◌≡◌, ℕ, ◌+◌, ◌-◌, ◌*◌, ◌/◌, ◌%◌, ◌<◌, ◌≤◌, Bool, true, false, ap, sym, ◌∙◌, refl, arith, nat_eq, nat_lt}
use Rattle.std.proofs.lemmas.Bool.{eq-eqb}
use Rattle.std.proofs.Common.{mul_comm, subst, div-add-mod'}
use Rattle.std.proofs.Math.Nat.{mul-mod_right, mul-div_cancel_left}
use Rattle.std.proofs.lemmas.Bool.Decides.{nat_tests}
use Rattle.mmv_layout.specs.Entries.{leads}
use Rattle.mmv_layout.proofs.Below.{some_holds, some_absent}

isnt : (a b : ℕ) → (a ≡ b → ⊥) → nat_eq a b ≡ false
isnt a b h = grind (arith, nat_tests)

stands : (first count size offset : ℕ) → first ≤ offset → (offset - first) % size ≡ 0 → (offset - first) / size < count → leads first count size offset ≡ true
unfolding leads
stands first count size offset h whole below =
    let q : ℕ = (offset - first) / size in
    let parts : q * size + (offset - first) % size ≡ offset - first = div-add-mod' (offset - first) size in
    let turned : size * q ≡ q * size = mul_comm size q in
    some_holds count q (λ k. nat_eq (first + size * k) offset) below (eq-eqb (first + size * q) offset (omega arith))

stands_not : (first count size offset : ℕ) → 0 < size → (first ≤ offset → (offset - first) % size ≡ 0 → (offset - first) / size < count → ⊥) → leads first count size offset ≡ false
unfolding leads
stands_not first count size offset some none = some_absent count (λ k. nat_eq (first + size * k) offset) (λ k h. isnt (first + size * k) offset (λ e.
    let distance : offset - first ≡ size * k = omega arith in
    none (omega arith) (ap (λ n. n % size) distance ∙ mul-mod_right size k)
    (subst (λ n. n < count) (sym (ap (λ n. n / size) distance ∙ mul-div_cancel_left k some)) h)))

pub leads_not : (first count size offset : ℕ) → 0 < size → (first ≤ offset → (offset - first) % size ≡ 0 → (offset - first) / size < count → ⊥) → false ≡ leads first count size offset
leads_not first count size offset some none = sym (stands_not first count size offset some none)

below_is : (first count size offset : ℕ) (t : Bool) → nat_lt ((offset - first) / size) count ≡ t → 0 < size → first ≤ offset → (offset - first) % size ≡ 0 → t ≡ leads first count size offset
below_is first count size offset true e some h whole = sym (stands first count size offset h whole (less ((offset - first) / size) count e))
  where
    less : (a b : ℕ) → nat_lt a b ≡ true → a < b
    less a b e = grind (arith, nat_tests)
below_is first count size offset false e some h whole = sym (stands_not first count size offset some (λ g w below. not_less ((offset - first) / size) count e below))
  where
    not_less : (a b : ℕ) → nat_lt a b ≡ false → a < b → ⊥
    not_less a b e h = grind (arith, nat_tests)

-- at a whole distance the number of the entry decides
pub leads_below : (first count size offset : ℕ) → 0 < size → first ≤ offset → (offset - first) % size ≡ 0 → nat_lt ((offset - first) / size) count ≡ leads first count size offset
leads_below first count size offset some h whole = below_is first count size offset _ refl some h whole
