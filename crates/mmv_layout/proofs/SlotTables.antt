-- A table of slots, as it grows slot by slot.
use Rattle.std.proofs.Common.{◌≡◌, ℕ, ℤ, Bool, true, false, ◌&&◌, List, [], ◌∷◌, ◌++◌, ◌+◌, ◌<◌, length, take, get_or, Option, Some, None, is_some, ap, ap₂, sym, subst, ◌∙◌, refl, cond, nat_eq}
use Rattle.std.specs.List.{find}
use Rattle.std.specs.Option.{option_or}
use Rattle.std.specs.Cmp.{unsigned_ties}
use Rattle.std.specs.declared.cmp.Ordering.{Ordering}
use Rattle.std.specs.declared.cmp.Ordering.TheVariants.{Less, Equal, Greater}
use Rattle.std.specs.Ordering.{nat_cmp, int_cmp, int_eq, is_eq, ordering_then}
use Rattle.std.specs.BTreeMap.{BTreeMap, get}
use Rattle.std.proofs.lemmas.Bool.{eqb-true}
use Rattle.std.proofs.lemmas.Bool.Decides.{Decides-int_eq}
use Rattle.std.proofs.lemmas.List.{take_more}
use Rattle.std.proofs.lemmas.List.Folds.{find-append}
use Rattle.mmv_layout.specs.declared.rows.Slot.{Slot}
use Rattle.mmv_layout.proofs.Below.{both_left, both_right}
use Rattle.mmv_layout.specs.Form.{slots_of, is_slot_of}
use Rattle.mmv_layout.specs.SlotTables.{slot_order, slot_in, HasSlots, Keeps, Finds}
use Rattle.mmv_layout.proofs.SlotFacts.{slot_found}

then_equal : (a b : Ordering) → is_eq (ordering_then a b) ≡ (is_eq a && is_eq b)
then_equal Less b = refl
then_equal Equal b = refl
then_equal Greater b = refl

order_same : (slot : Slot) (item : ℕ) (instance : ℤ) → is_eq (slot_order (slot.item, slot.instance) (item, instance)) ≡ is_slot_of item instance slot
order_same slot item instance =
    then_equal (nat_cmp slot.item item) (int_cmp slot.instance instance) ∙ ap (λ b. b && int_eq slot.instance instance) (sym (unsigned_ties slot.item item))

none_is : (o : Option Slot) → option_or o None ≡ o
none_is (Some slot) = refl
none_is None = refl

-- the key of a slot is that of the item and the instance
key_same : (table : BTreeMap (ℕ × ℤ) Slot) (slot : Slot) (item : ℕ) (instance : ℤ) → is_slot_of item instance slot ≡ true → slot_in table item instance ≡ get slot_order table (slot.item, slot.instance)
key_same table slot item instance e =
    let key : (slot.item, slot.instance) ≡ (item, instance) = ap₂ (λ a b. (a, b)) (eqb-true slot.item item (both_left (nat_eq slot.item item) (int_eq slot.instance instance) e)) ((Decides-int_eq slot.instance instance).0 (both_right (nat_eq slot.item item) (int_eq slot.instance instance) e)) in
    sym (ap (get slot_order table) key)

-- a slot whose key was there changes nothing
pub keeps_old : (table : BTreeMap (ℕ × ℤ) Slot) (slot : Slot) → is_some (get slot_order table (slot.item, slot.instance)) ≡ true → Keeps table table slot
keeps_old table slot there item instance = here (is_slot_of item instance slot) refl
  where
    some_stays : (o : Option Slot) (s : Slot) → is_some o ≡ true → o ≡ option_or o (Some s)
    some_stays (Some t) s h = refl
    some_stays None s h = cc

    here : (b : Bool) → is_slot_of item instance slot ≡ b → slot_in table item instance ≡ option_or (slot_in table item instance) (cond b (Some slot) None)
    here true e = some_stays (slot_in table item instance) slot (ap is_some (key_same table slot item instance e) ∙ there)
    here false e = sym (none_is (slot_in table item instance))

-- and one whose key wasn't is found where its key is looked for
pub keeps_new : (old new : BTreeMap (ℕ × ℤ) Slot) (slot : Slot) → get slot_order old (slot.item, slot.instance) ≡ None
    → ((q : ℕ × ℤ) → get slot_order new q ≡ cond (is_eq (slot_order (slot.item, slot.instance) q)) (Some slot) (get slot_order old q)) → Keeps old new slot
keeps_new old new slot none after item instance =
    after (item, instance) ∙ ap (λ b. cond b (Some slot) (slot_in old item instance)) (order_same slot item instance) ∙ here (is_slot_of item instance slot) refl
  where
    here : (b : Bool) → is_slot_of item instance slot ≡ b → cond b (Some slot) (slot_in old item instance) ≡ option_or (slot_in old item instance) (cond b (Some slot) None)
    here true e = ap (λ o. option_or o (Some slot)) (sym (key_same old slot item instance e ∙ none))
    here false e = sym (none_is (slot_in old item instance))

-- one slot more
pub slots_more : (old new : BTreeMap (ℕ × ℤ) Slot) (slots : List Slot) (slot : Slot) → HasSlots old slots → Keeps old new slot → HasSlots new (slots ++ slot ∷ [])
slots_more old new slots slot has keeps item instance =
    keeps item instance ∙ ap (λ o. option_or o (cond (is_slot_of item instance slot) (Some slot) None)) (has item instance)
    ∙ sym (find-append (is_slot_of item instance) slots (slot ∷ []))

-- the next of many slots
pub slots_step : (old new : BTreeMap (ℕ × ℤ) Slot) (slots : List Slot) (k : ℕ) (slot d : Slot) → k < length slots → slot ≡ get_or slots k d → HasSlots old (take k slots) → Keeps old new slot → HasSlots new (take (k + 1) slots)
slots_step old new slots k slot d below is has keeps =
    subst (HasSlots new) (sym (take_more slots k d below)) (subst (λ s. HasSlots new (take k slots ++ s ∷ [])) is (slots_more old new (take k slots) slot has keeps))

-- what the table of an image's slots tells
pub table_finds : (words : List ℕ) (table : BTreeMap (ℕ × ℤ) Slot) (slots : List Slot) → HasSlots table slots → slots ≡ slots_of words → Finds table (slots_of words)
table_finds words table slots has is item instance =
    slot_found words item instance (slot_in table item instance) (has item instance ∙ ap (find (is_slot_of item instance)) is)
