-- What a swap or an add of a script stores, by the layout that the words say: its slot has to be there, with a value of its
-- kind.
use Rattle.std.specs.Prelude.{ℕ, ℤ, pos, negsuc, unsigned_abs, ◌^◌, Bool, true, false, if◌then◌else◌, List, find, bytes_eq, option_map, Option, Some, None, unwrap_or}
use Rattle.std.specs.Int.{int_rem_euclid}
use Rattle.pcp_base.specs.declared.kind.Kind.{Kind}
use Rattle.pcp_base.specs.declared.kind.Kind.TheVariants as kinds
use Rattle.mmv_layout.specs.declared.rows.Content.{Content}
use Rattle.mmv_layout.specs.declared.rows.Content.TheVariants as contents
use Rattle.mmv_layout.specs.declared.rows.Slot.{Slot}
use Rattle.mmv_layout.specs.Form.{is_slot_of, slots_of, texts_of}
use Rattle.text_lines.specs.Contents.{number_as}
use Rattle.region_core.specs.declared.act.Act.{Act}
use Rattle.region_core.specs.declared.act.Act.TheVariants.{Swap, Add}
use Rattle.run_script.specs.declared.lines.Given.{Given}
use Rattle.run_script.specs.declared.lines.Given.TheVariants as given

-- the slot of an item and an instance; without an instance the metric has no domain
abbrev pub slot_with : List ℕ → ℕ → Option ℤ → Option Slot
slot_with words item instance = find (is_slot_of item (unwrap_or instance (negsuc 0))) (slots_of words)

abbrev pub field_of : Option Content → Option ℕ
field_of (Some (contents.Number n)) = Some n
field_of _ = None

-- a number in the kind's range as the 64 bits of its value word
abbrev pub number_for : Kind → ℤ → Option ℕ
number_for kind n = field_of (number_as kind n)

-- the offset of the first string with a text
abbrev pub offset_of : List ℕ → List ℕ → Option ℕ
offset_of words text = option_map (λ found. found.0) (find (λ found. bytes_eq found.1 text) (texts_of words))

abbrev pub text_for : Kind → List ℕ → List ℕ → Option ℕ
text_for kinds.Text words text = offset_of words text
text_for _ words text = None

abbrev pub value_for : List ℕ → Kind → Given → Option ℕ
value_for words kind (given.Number n) = number_for kind n
value_for words kind (given.Choice text) = text_for kind words text

abbrev pub swap_into : List ℕ → Option Slot → Given → Option Act
swap_into words None value = None
swap_into words (Some slot) value = option_map (Swap slot.word) (value_for words slot.kind value)

-- the swap of a value into a slot
abbrev pub swap_of : List ℕ → ℕ → Option ℤ → Given → Option Act
swap_of words item instance value = swap_into words (slot_with words item instance) value

-- kinds whose value words hold numbers
abbrev pub holds_number : Kind → Bool
holds_number kinds.I32 = true
holds_number kinds.U32 = true
holds_number kinds.I64 = true
holds_number kinds.U64 = true
holds_number _ = false

-- a whole number modulo 2^64
abbrev pub low_bits : ℤ → ℕ
low_bits number = unsigned_abs (int_rem_euclid number (pos (2 ^ 64)))

abbrev pub add_into : Option Slot → ℤ → Option Act
add_into None number = None
add_into (Some slot) number = if holds_number slot.kind then Some (Add slot.word (low_bits number)) else None

-- the add of a number, modulo 2^64, to a slot
abbrev pub add_of : List ℕ → ℕ → Option ℤ → ℤ → Option Act
add_of words item instance number = add_into (slot_with words item instance) number
