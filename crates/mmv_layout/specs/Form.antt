-- The form of an image: what it says without its generation and the contents of its values, and where these contents
-- stand. Two images have one form where all of it agrees.
use Rattle.std.specs.Prelude.{◌≡◌, ◌≢◌, ◌⊎◌, ℕ, ℤ, negsuc, ◌+◌, ◌/◌, Bool, ◌&&◌, ◌==◌, nat_le, if◌then◌else◌, List, Option, None, Some, unwrap_or}
use Rattle.std.specs.Ordering.{int_eq}
use Rattle.std.specs.List.{filter_map, Contains}
use Rattle.pcp_base.specs.Codes.{kind_of_code}
use Rattle.pcp_base.specs.declared.kind.Kind.TheVariants.{I32}
use Rattle.mmv_layout.specs.Contents.{version_in, flags_in, process_in, cluster_in}
use Rattle.mmv_layout.specs.Images.{IsImage}
use Rattle.mmv_layout.specs.Entries.{value_count, value_at, string_count, string_at}
use Rattle.mmv_layout.specs.declared.rows.IndomRow.{IndomRow}
use Rattle.mmv_layout.specs.declared.rows.MetricRow.{MetricRow}
use Rattle.mmv_layout.specs.declared.rows.Slot.{Slot}
use Rattle.mmv_layout.specs.Rows.{list_below, string_text, item_of, type_of, instance_of, indoms_of, metrics_of, strings_of}

-- the slot of the value at an offset, in this word; the instance is -1 where the metric has no domain
abbrev pub slot_in : List ℕ → ℕ → ℕ → Slot
slot_in words value word = record {
  item = item_of words value;
  instance = unwrap_or (instance_of words value) (negsuc 0);
  kind = unwrap_or (kind_of_code (type_of words value)) I32;
  word = word;
}

-- the value word of the value at an offset, if it has one: of types 0 to 3 the word of its value field, and of type 6
-- that of its extra field
unfoldable pub slot_at : List ℕ → ℕ → Option Slot
slot_at words value =
    if nat_le (type_of words value) 3 then Some (slot_in words value (value / 8)) else
    if type_of words value == 6 then Some (slot_in words value (value / 8 + 1)) else None

-- the value words in the order of the values
unfoldable pub slots_of : List ℕ → List Slot
slots_of words = filter_map (slot_at words) (list_below (value_count words) (value_at words))

-- the slot is that of an item and an instance
abbrev pub is_slot_of : ℕ → ℤ → Slot → Bool
is_slot_of item instance slot = slot.item == item && int_eq slot.instance instance

abbrev pub IsSlotOf : ℕ → ℤ → Slot → Type 0
IsSlotOf item instance slot = (slot.item ≡ item) × (slot.instance ≡ instance)

abbrev pub IsOther : ℕ → ℤ → Slot → Type 0
IsOther item instance slot = (slot.item ≢ item) ⊎ (slot.instance ≢ instance)

-- each string's offset
unfoldable pub offsets_of : List ℕ → List ℕ
offsets_of words = list_below (string_count words) (string_at words)

-- each string's offset and text
unfoldable pub texts_of : List ℕ → List (ℕ × List ℕ)
texts_of words = list_below (string_count words) (λ i. (string_at words i, string_text words (string_at words i)))

-- each value's item and instance
unfoldable pub subjects_of : List ℕ → List (ℕ × Option ℤ)
subjects_of words = list_below (value_count words) (λ i. (item_of words (value_at words i), instance_of words (value_at words i)))

pub record Form : Type 0 where
  pub version : ℕ
  pub flags : ℕ
  pub pid : ℕ
  pub cluster : ℕ
  pub indoms : List IndomRow
  pub metrics : List MetricRow
  pub subjects : List (ℕ × Option ℤ)
  pub strings : List (List ℕ)
  pub slots : List Slot
  pub offsets : List ℕ

unfoldable pub form_of : List ℕ → Form
form_of words = record {
  version = version_in words;
  flags = flags_in words;
  pid = process_in words;
  cluster = cluster_in words;
  indoms = indoms_of words;
  metrics = metrics_of words;
  subjects = subjects_of words;
  strings = strings_of words;
  slots = slots_of words;
  offsets = offsets_of words;
}

-- an image has at most one value word for an item and an instance
abbrev pub HasOneSlotEach : Type 0
HasOneSlotEach = (words : List ℕ) → IsImage words → (slot other : Slot) → Contains (slots_of words) slot → Contains (slots_of words) other
    → slot.item ≡ other.item → slot.instance ≡ other.instance → slot ≡ other
