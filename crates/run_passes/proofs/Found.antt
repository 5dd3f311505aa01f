-- A slot that was found is found again by its own item and instance.
use Rattle.std.proofs.Common.{◌≡◌, ℕ, ℤ, Bool, true, false, if◌then◌else◌, find, List, [], ◌∷◌, Option, Some, None, sym, refl, subst, eqb-true}
use Rattle.std.specs.Ordering.{int_eq}
use Rattle.std.specs.Prelude.{nat_eq}
use Rattle.std.proofs.lemmas.Bool.Decides.{Decides-int_eq}
use Rattle.mmv_layout.specs.declared.rows.Slot.{Slot}
use Rattle.mmv_layout.specs.Form.{is_slot_of, IsSlotOf}
use Rattle.run_passes.specs.Keeping.{IsFound}
use Rattle.run_passes.proofs.Lined.{both_true}

passes : {A : Type 0} (p : A → Bool) (xs : List A) (x : A) → find p xs ≡ Some x → p x ≡ true
passes p [] x e = absurd (cc)
passes {A} p (y ∷ ys) x e = by_test (p y) refl e (λ f. passes p ys x f)
  where
    by_test : (b : Bool) → p y ≡ b → (if b then Some y else find p ys) ≡ Some x → (find p ys ≡ Some x → p x ≡ true) → p x ≡ true
    by_test true g f rest = let same : y ≡ x = cc in subst (λ (z : A). p z ≡ true) same g
    by_test false g f rest = rest f

slot_passes : (item : ℕ) (instance : ℤ) (slot : Slot) → is_slot_of item instance slot ≡ true → IsSlotOf item instance slot
slot_passes item instance slot h =
    let both = both_true (nat_eq slot.item item) (int_eq slot.instance instance) h in
    (eqb-true slot.item item both.0, (Decides-int_eq slot.instance instance).0 both.1)

pub found_again : (slots : List Slot) (item : ℕ) (instance : ℤ) (found : Option Slot) → found ≡ find (is_slot_of item instance) slots → IsFound slots found
found_again slots item instance None e = tt
found_again slots item instance (Some slot) e =
    let is = slot_passes item instance slot (passes (is_slot_of item instance) slots slot (sym e)) in
    subst (λ (n : ℕ). find (is_slot_of n slot.instance) slots ≡ Some slot) (sym is.0) (subst (λ (z : ℤ). find (is_slot_of item z) slots ≡ Some slot) (sym is.1) (sym e))
