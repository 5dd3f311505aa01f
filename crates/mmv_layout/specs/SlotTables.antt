-- The value words of an image by item and instance, in an ordered map.
use Rattle.std.specs.Prelude.{◌≡◌, ℕ, ℤ, List, Option, Some, None, if◌then◌else◌, All, Contains, MatchOption}
use Rattle.std.specs.List.{find}
use Rattle.std.specs.Option.{option_or}
use Rattle.std.specs.declared.cmp.Ordering.{Ordering}
use Rattle.std.specs.Ordering.{nat_cmp, int_cmp, ordering_then}
use Rattle.std.specs.BTreeMap.{BTreeMap, get}
use Rattle.mmv_layout.specs.declared.rows.Slot.{Slot}
use Rattle.mmv_layout.specs.Form.{is_slot_of, IsSlotOf, IsOther}

-- by item, then by instance
abbrev pub slot_order : ℕ × ℤ → ℕ × ℤ → Ordering
slot_order a b = ordering_then (nat_cmp a.0 b.0) (int_cmp a.1 b.1)

abbrev pub slot_in : BTreeMap (ℕ × ℤ) Slot → ℕ → ℤ → Option Slot
slot_in table item instance = get slot_order table (item, instance)

-- a table has the first slot of each item and instance
abbrev pub HasSlots : BTreeMap (ℕ × ℤ) Slot → List Slot → Type 0
HasSlots table slots = (item : ℕ) (instance : ℤ) → slot_in table item instance ≡ find (is_slot_of item instance) slots

-- a slot was kept, unless one of its item and instance was there
abbrev pub Keeps : BTreeMap (ℕ × ℤ) Slot → BTreeMap (ℕ × ℤ) Slot → Slot → Type 0
Keeps old new slot =
    (item : ℕ) (instance : ℤ) → slot_in new item instance ≡ option_or (slot_in old item instance) (if is_slot_of item instance slot then Some slot else None)

-- a table tells of each item and instance its slot, and nothing exactly where there is none
abbrev pub Finds : BTreeMap (ℕ × ℤ) Slot → List Slot → Type 0
Finds table slots =
    (item : ℕ) (instance : ℤ) → MatchOption (slot_in table item instance) (All (IsOther item instance) slots)
    (λ slot. Contains slots slot × IsSlotOf item instance slot)
