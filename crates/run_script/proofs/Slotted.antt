-- The slot that an image tells is the first of its slots that fits.
use Rattle.std.proofs.Common.{◌≡◌, ◌≢◌, ℕ, ℤ, List, Option, None, Some, ap, sym, subst, ◌∙◌, refl, MatchOption, All, Contains, ⊎_elim}
use Rattle.std.specs.List.{find}
use Rattle.mmv_layout.specs.Images.{IsImage}
use Rattle.mmv_layout.specs.declared.rows.Slot.{Slot}
use Rattle.mmv_layout.specs.Form.{slots_of, is_slot_of, IsSlotOf, IsOther}
use Rattle.mmv_layout.proofs.SlotFacts.{slot_found}
use Rattle.mmv_layout.proofs.SlotsOnce.{one_slot_each}

apart : (words : List ℕ) (item : ℕ) (instance : ℤ) (slot : Slot) → All (IsOther item instance) (slots_of words) → Contains (slots_of words) slot → IsSlotOf item instance slot → ⊥
apart words item instance slot others (k, below, stands) is =
    ⊎_elim (λ (a : slot.item ≢ item). a is.0) (λ (b : slot.instance ≢ instance). b is.1) (subst (IsOther item instance) stands (others k slot below))

pub slot_is : (words : List ℕ) (item : ℕ) (instance : ℤ) (found : Option Slot) → IsImage words
    → MatchOption found (All (IsOther item instance) (slots_of words)) (λ slot. Contains (slots_of words) slot × IsSlotOf item instance slot)
    → found ≡ find (is_slot_of item instance) (slots_of words)
slot_is words item instance found image h =
    same found (find (is_slot_of item instance) (slots_of words)) h (slot_found words item instance (find (is_slot_of item instance) (slots_of words)) refl)
  where
    same : (found first : Option Slot) → MatchOption found (All (IsOther item instance) (slots_of words)) (λ slot. Contains (slots_of words) slot × IsSlotOf item instance slot)
        → MatchOption first (All (IsOther item instance) (slots_of words)) (λ slot. Contains (slots_of words) slot × IsSlotOf item instance slot) → found ≡ first
    same None None h g = refl
    same None (Some slot) h g = absurd (apart words item instance slot h g.0 g.1)
    same (Some slot) None h g = absurd (apart words item instance slot g h.0 h.1)
    same (Some slot) (Some other) h g = ap Some (one_slot_each words image slot other h.0 g.0 (h.1.0 ∙ sym g.1.0) (h.1.1 ∙ sym g.1.1))
