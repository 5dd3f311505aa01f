-- What a stint keeps of its region's layout, once it has looked.
use Rattle.std.specs.Prelude.{◌≡◌, ℕ, ◌<◌, All, List, find, length, Option, Some, None}
use Rattle.mmv_layout.specs.declared.rows.Slot.{Slot}
use Rattle.mmv_layout.specs.Form.{is_slot_of}
use Rattle.region_rule.specs.Seats.{Token}
use Rattle.region_words.specs.Calls.{form_seen}
use Rattle.run_passes.specs.Storing.{texts_seen}

-- the slot that was found last is the first one of its item and its instance
abbrev pub IsFound : List Slot → Option Slot → Type 0
IsFound slots None = Unit {0}
IsFound slots (Some last) = find (is_slot_of last.item last.instance) slots ≡ Some last

-- the value words, which are words of the region
abbrev pub KeepsSlots : Token → Option (List Slot) → Type 0
KeepsSlots stint None = Unit {0}
KeepsSlots stint (Some slots) = (slots ≡ (form_seen stint.view).slots) × All (λ (slot : Slot). slot.word < length stint.region.words) slots

-- the strings with their offsets
abbrev pub KeepsTexts : Token → Option (List (ℕ × List ℕ)) → Type 0
KeepsTexts stint None = Unit {0}
KeepsTexts stint (Some texts) = texts ≡ texts_seen stint.view
