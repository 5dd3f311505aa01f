-- What the form of an image and its value words have to do with what it says.
use Rattle.std.proofs.Common.{◌≡◌, ℕ, zero, suc, negsuc, ◌+◌, ◌*◌, ◌/◌, ◌%◌, ◌<◌, ◌≤◌, Bool, true, false, List, nat_eq, Some, ◌++◌, length, unwrap_or, ap, sym, subst, ◌∙◌, refl, arith, nat_le, slice_index, map, ⊎_elim, Contains}
use Rattle.std.proofs.lemmas.Bool.Decides.{nat_tests}
use Rattle.pcp_base.specs.Codes.{kind_of_code}
use Rattle.pcp_base.specs.declared.kind.Kind.TheVariants as kinds
use Rattle.mmv_layout.specs.Fields.{number64}
use Rattle.mmv_layout.specs.Sizes.{value_size}
use Rattle.mmv_layout.specs.EntryFields.{extra_offset_in_value, extra_in_value}
use Rattle.mmv_layout.specs.Entries.{value_count, value_at, string_count, string_at}
use Rattle.mmv_layout.specs.Images.{is_image}
use Rattle.mmv_layout.specs.declared.rows.Slot.{Slot}
use Rattle.mmv_layout.specs.declared.rows.ValueRow.{ValueRow}
use Rattle.mmv_layout.specs.declared.rows.Content.TheVariants.{Number, Choice, Raw}
use Rattle.mmv_layout.specs.Rows.{string_text, type_of, content_of, value_row, values_of, strings_of, layout_of}
use Rattle.mmv_layout.specs.Form.{slot_in, slot_at, slots_of, texts_of, offsets_of, subjects_of, form_of}
use Rattle.mmv_layout.specs.Says.{Says}
use Rattle.mmv_layout.specs.ShapeLaws.{IsFormOf, FormIsSaid, TextsAreTheForms, LengthKeepsTheLayout, content_of_kind, SlotHoldsTheContent, HasItsSlot, HasSlot, ValuesHaveSlots}
use Rattle.mmv_layout.proofs.EntryOffsets.{Stands, value_stands}
use Rattle.mmv_layout.proofs.RowLists.{among_rows, row_among, rows_mapped}
use Rattle.mmv_layout.proofs.Saying.{layout_says, says_layout}
use Rattle.mmv_layout.proofs.SlotLists.{GivenBy, given_among}
use Rattle.mmv_layout.proofs.SlotFacts.{SlotIs, slot_is, slot_value}
use Rattle.mmv_layout.proofs.Looked.{five_words}
use Rattle.mmv_layout.proofs.AlikeForm.{image_still, layout_same}
use Rattle.mmv_layout.proofs.Shapes.{number_before, longer_agrees}

pub layout_kept : LengthKeepsTheLayout
layout_kept words more layout h few says =
    let five : 5 ≤ length words = five_words words h in
    let same : layout_of (words ++ more) ≡ layout_of words = layout_same words (words ++ more) h (longer_agrees words more h few)
    (λ i below. number_before words more (value_at words i) (first (value_at words i) (length words) (offset_within i below)))
    (λ i below. number_before words more (extra_offset_in_value (value_at words i)) (second (value_at words i) (length words) (offset_within i below)))
    (number_before words more 8 (omega arith)) in
    subst (Says (words ++ more)) (same ∙ sym (says_layout words layout says)) (layout_says (words ++ more) (image_still words (words ++ more) h (longer_agrees words more h few)))
  where
    offset_within : (i : ℕ) → i < value_count words → value_at words i + value_size ≤ 8 * length words
    offset_within i below = let stands : Stands words (value_at words i) value_size = value_stands words i h below in stands.within

    first : (v n : ℕ) → v + value_size ≤ 8 * n → v < 8 * n
    first v n b = omega arith

    second : (v n : ℕ) → v + value_size ≤ 8 * n → v + 8 < 8 * n
    second v n b = omega arith

subjects_mapped : (words : List ℕ) → subjects_of words ≡ map (λ row. (row.item, row.instance)) (values_of words)
unfolding subjects_of values_of value_row
subjects_mapped words = sym (rows_mapped (λ (row : ValueRow). (row.item, row.instance)) (value_count words) (λ i. value_row words (value_at words i)))

form_of_layout : (words : List ℕ) → IsFormOf (form_of words) (layout_of words)
unfolding form_of layout_of
form_of_layout words = record {
  version = refl;
  flags = refl;
  pid = refl;
  cluster = refl;
  indoms = refl;
  metrics = refl;
  subjects = subjects_mapped words;
  strings = refl;
}

pub form_said : FormIsSaid
form_said words layout says = subst (IsFormOf (form_of words)) (sym (says_layout words layout says)) (form_of_layout words)

pub texts_said : TextsAreTheForms
unfolding texts_of form_of offsets_of strings_of
texts_said words = (
  rows_mapped (λ (text : ℕ × List ℕ). text.0) (string_count words) (λ i. (string_at words i, string_text words (string_at words i))),
  rows_mapped (λ (text : ℕ × List ℕ). text.1) (string_count words) (λ i. (string_at words i, string_text words (string_at words i))),
)

held_number : (words : List ℕ) (code number : ℕ) → code ≤ 3 → content_of_kind words (unwrap_or (kind_of_code code) kinds.I32) number ≡ Number number
held_number words zero number h = refl
held_number words (suc zero) number h = refl
held_number words (suc (suc zero)) number h = refl
held_number words (suc (suc (suc zero))) number h = refl
held_number words (suc (suc (suc (suc code)))) number h = absurd (omega arith)

held_text : (words : List ℕ) (code number : ℕ) → code ≡ 6 → content_of_kind words (unwrap_or (kind_of_code code) kinds.I32) number ≡ Choice (string_text words number)
held_text words code number h = ap (λ n. content_of_kind words (unwrap_or (kind_of_code n) kinds.I32) number) h

is_number : (code : ℕ) → code ≤ 3 → nat_le code 3 ≡ true
is_number code h = grind (arith, nat_tests)

content_number : (words : List ℕ) (value : ℕ) → type_of words value ≤ 3 → content_of words value ≡ Number (number64 words value)
unfolding content_of
content_number words value h = rw (is_number (type_of words value) h) refl

content_choice : (words : List ℕ) (value : ℕ) → type_of words value ≡ 6 → content_of words value ≡ Choice (string_text words (extra_in_value words value))
unfolding content_of
content_choice words value h = rw h refl

word_first : (words : List ℕ) (value : ℕ) → number64 words value ≡ slice_index words (value / 8)
unfolding number64
word_first words value = refl

word_second : (words : List ℕ) (value : ℕ) → value % 8 ≡ 0 → extra_in_value words value ≡ slice_index words (value / 8 + 1)
unfolding number64
word_second words value whole = ap (slice_index words) (omega arith)

content_held : (words : List ℕ) (value : ℕ) (slot : Slot) → value % 8 ≡ 0 → SlotIs words value slot → content_of words value ≡ content_of_kind words slot.kind (slice_index words slot.word)
content_held words value slot whole is =
    ⊎_elim
    (λ (x : (type_of words value ≤ 3) × (slot.word ≡ value / 8)).
    content_number words value x.0 ∙ ap Number (word_first words value ∙ ap (slice_index words) (sym x.1))
    ∙ sym (ap (λ kind. content_of_kind words kind (slice_index words slot.word)) (ap (λ s. s.kind) is.is) ∙ held_number words (type_of words value) (slice_index words slot.word) x.0))
    (λ (y : (type_of words value ≡ 6) × (slot.word ≡ value / 8 + 1)).
    content_choice words value y.0 ∙ ap (λ n. Choice (string_text words n)) (word_second words value whole ∙ ap (slice_index words) (sym y.1))
    ∙ sym (ap (λ kind. content_of_kind words kind (slice_index words slot.word)) (ap (λ s. s.kind) is.is) ∙ held_text words (type_of words value) (slice_index words slot.word) y.0)) is.word

row_in : (words : List ℕ) (i : ℕ) → i < value_count words → Contains (values_of words) (value_row words (value_at words i))
unfolding values_of
row_in words i below = row_among (value_count words) i (λ i. value_row words (value_at words i)) below

row_facts : (words : List ℕ) (value : ℕ) (slot : Slot) → value % 8 ≡ 0 → SlotIs words value slot
    → ((value_row words value).item ≡ slot.item) × (unwrap_or (value_row words value).instance (negsuc 0) ≡ slot.instance) × ((value_row words value).content ≡ content_of_kind words slot.kind (slice_index words slot.word))
unfolding value_row
row_facts words value slot whole is = (sym (ap (λ s. s.item) is.is), sym (ap (λ s. s.instance) is.is), content_held words value slot whole is)

pub slot_holds : SlotHoldsTheContent
slot_holds words slot h among =
    let given : GivenBy (slot_at words) (value_count words) (value_at words) slot = slot_value words slot among in
    let stands : Stands words (value_at words given.index) value_size = value_stands words given.index h given.below in
    let facts = row_facts words (value_at words given.index) slot stands.whole (slot_is words (value_at words given.index) slot given.gives) in
    (value_row words (value_at words given.index), row_in words given.index given.below, facts.0, facts.1, facts.2)

slot_first : (words : List ℕ) (value : ℕ) → nat_le (type_of words value) 3 ≡ true → slot_at words value ≡ Some (slot_in words value (value / 8))
unfolding slot_at
slot_first words value e = rw e refl

slot_second : (words : List ℕ) (value : ℕ) → nat_le (type_of words value) 3 ≡ false → nat_eq (type_of words value) 6 ≡ true → slot_at words value ≡ Some (slot_in words value (value / 8 + 1))
unfolding slot_at
slot_second words value e f = rw (e, f) refl

content_raw : (words : List ℕ) (value : ℕ) → nat_le (type_of words value) 3 ≡ false → nat_eq (type_of words value) 6 ≡ false
    → content_of words value ≡ Raw (number64 words value) (extra_in_value words value)
unfolding content_of
content_raw words value e f = rw (e, f) refl

le_three : (code : ℕ) → nat_le code 3 ≡ true → code ≤ 3
le_three code h = grind (arith, nat_tests)

eq_six : (code : ℕ) → nat_eq code 6 ≡ true → code ≡ 6
eq_six code h = grind (arith, nat_tests)

module _ (words : List ℕ) (i : ℕ) (h : is_image words ≡ true) (below : i < value_count words) where
  made : (slot : Slot) → slot_at words (value_at words i) ≡ Some slot → HasItsSlot words (value_row words (value_at words i))
  unfolding slots_of
  made slot gives =
      let stands : Stands words (value_at words i) value_size = value_stands words i h below in
      let facts = row_facts words (value_at words i) slot stands.whole (slot_is words (value_at words i) slot gives) in record {
        slot = slot;
        among = given_among (slot_at words) (value_count words) i (value_at words) slot below gives;
        item = sym facts.0;
        instance = sym facts.1;
        holds = facts.2;
      }

  of_value : HasSlot words (value_row words (value_at words i)) (content_of words (value_at words i))
  of_value = here (nat_le (type_of words (value_at words i)) 3) refl (nat_eq (type_of words (value_at words i)) 6) refl
    where
      here : (a : Bool) → nat_le (type_of words (value_at words i)) 3 ≡ a → (b : Bool) → nat_eq (type_of words (value_at words i)) 6 ≡ b
          → HasSlot words (value_row words (value_at words i)) (content_of words (value_at words i))
      here true e b f =
          subst (HasSlot words (value_row words (value_at words i))) (sym (content_number words (value_at words i) (le_three (type_of words (value_at words i)) e)))
          (made (slot_in words (value_at words i) (value_at words i / 8)) (slot_first words (value_at words i) e))
      here false e true f =
          subst (HasSlot words (value_row words (value_at words i))) (sym (content_choice words (value_at words i) (eq_six (type_of words (value_at words i)) f)))
          (made (slot_in words (value_at words i) (value_at words i / 8 + 1)) (slot_second words (value_at words i) e f))
      here false e false f = subst (HasSlot words (value_row words (value_at words i))) (sym (content_raw words (value_at words i) e f)) tt

row_has_slot : (words : List ℕ) (i : ℕ) → is_image words ≡ true → i < value_count words → HasSlot words (value_row words (value_at words i)) (value_row words (value_at words i)).content
unfolding value_row
row_has_slot words i h below = of_value words i h below

pub have_slots : ValuesHaveSlots
unfolding values_of
have_slots words row h among =
    let (i, below, is) = among_rows (value_count words) (λ i. value_row words (value_at words i)) row among in
    subst (λ r. HasSlot words r r.content) (sym is) (row_has_slot words i h below)
