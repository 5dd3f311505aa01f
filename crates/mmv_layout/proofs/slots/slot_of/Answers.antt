-- What is found among the value words is one of them.
use Rattle.std.proofs.Common.{◌≡◌, ◌<◌, ◌≤◌, ◌⊎◌, length, inl, inr, Option, None, Some, subst, List, ℕ, ℤ, IfSome, MatchOption, All, Contains, true, refl, w32}
use Rattle.std.proofs.lemmas.Int.{to_z-of_z}
use Rattle.std.specs.List.{find}
use Rattle.mmv_layout.specs.Images.{is_image}
use Rattle.mmv_layout.specs.declared.rows.Slot.{Slot}
use Rattle.mmv_layout.specs.Form.{slots_of, is_slot_of, IsSlotOf, IsOther}
use Rattle.mmv_layout.proofs.SlotFacts.{slot_found, slot_lies, slot_item}
use Rattle.mmv_layout.proofs.slots.slot_of.Goals as goal

word_of : (words : List ℕ) (item : ℕ) (instance : ℤ) (found : Option Slot) → is_image words ≡ true
    → MatchOption found (All (IsOther item instance) (slots_of words)) (λ slot. Contains (slots_of words) slot × IsSlotOf item instance slot)
    → IfSome found (λ slot. slot.word < length words)
word_of words item instance None h among = tt
word_of words item instance (Some slot) h among = (slot_lies words slot h among.0).1

item_of : (words : List ℕ) (item : ℕ) (instance : ℤ) (found : Option Slot) → is_image words ≡ true
    → MatchOption found (All (IsOther item instance) (slots_of words)) (λ slot. Contains (slots_of words) slot × IsSlotOf item instance slot)
    → (item ≤ 1023) ⊎ (found ≡ None)
item_of words item instance None h among = inr refl
item_of words item instance (Some slot) h among = inl (subst (λ n. n ≤ 1023) among.1.0 (slot_item words slot h among.0))

pub returns : goal.returns
returns c =
    let first : c.first_slot.result ≡ find (is_slot_of c.args.item c.args.instance) (slots_of c.args.words.now) =
    subst (λ instance. c.first_slot.result ≡ find (is_slot_of c.args.item instance) (slots_of c.args.words.now)) (to_z-of_z w32 c.args.instance c.ranges.instance) c.first_slot.ensures in
    let found = slot_found c.args.words.now c.args.item c.args.instance c.first_slot.result first in record {
      first = first;
      slot = found;
      word = word_of c.args.words.now c.args.item c.args.instance c.first_slot.result c.requires found;
      item = item_of c.args.words.now c.args.item c.args.instance c.first_slot.result c.requires found;
    }
