-- Which values a value word takes under a form, and the four laws of images as a kind of layout: what may change in an
-- image so that it's still one, of the same form. Words are numbers from 0 to 2^64 - 1.
use Rattle.std.specs.Prelude.{◌≡◌, ℕ, ◌^◌, ◌<◌, ◌≤◌, List, ◌++◌, length, All, Contains, slice_index, slice_set, map, negsuc, unwrap_or}
use Rattle.pcp_base.specs.declared.kind.Kind.{Kind}
use Rattle.pcp_base.specs.declared.kind.Kind.TheVariants as kinds
use Rattle.mmv_layout.specs.Images.{IsImage}
use Rattle.mmv_layout.specs.declared.rows.Slot.{Slot}
use Rattle.mmv_layout.specs.declared.rows.ValueRow.{ValueRow}
use Rattle.mmv_layout.specs.declared.rows.Content.{Content}
use Rattle.mmv_layout.specs.declared.rows.Content.TheVariants.{Number, Choice, Raw}
use Rattle.mmv_layout.specs.declared.rows.Layout.{Layout}
use Rattle.mmv_layout.specs.Rows.{string_text, values_of}
use Rattle.mmv_layout.specs.Form.{slots_of, texts_of, Form, form_of}
use Rattle.mmv_layout.specs.Says.{Says}

abbrev pub IsWord : ℕ → Type 0
IsWord n = n < 2 ^ 64

-- a slot takes any number, and that of a string the offset of a string
abbrev pub TakesAs : Kind → List ℕ → ℕ → Type 0
TakesAs kinds.Text offsets value = Contains offsets value
TakesAs _ offsets value = Unit {0}

-- a word takes a value where it's that of a slot
pub record Takes (form : Form) (word value : ℕ) : Type 0 where
  pub slot : Slot
  pub among : Contains form.slots slot
  pub stands : slot.word ≡ word
  pub takes : TakesAs slot.kind form.offsets value

-- other words are an image of the form of an image
pub record IsAlike (words others : List ℕ) : Type 0 where
  pub image : IsImage others
  pub form : form_of others ≡ form_of words

-- words 1 and 2 of an image are there and equal
abbrev pub HasGenerationTwice : Type 0
HasGenerationTwice = (words : List ℕ) → IsImage words → (2 < length words) × (slice_index words 1 ≡ slice_index words 2)

-- and neither is a value word
abbrev pub GenerationIsNoValue : Type 0
GenerationIsNoValue = (words : List ℕ) (value : ℕ) → IsImage words → (Takes (form_of words) 1 value → ⊥) × (Takes (form_of words) 2 value → ⊥)

-- another value that a value word takes leaves an image of the same form
abbrev pub ValueKeepsTheForm : Type 0
ValueKeepsTheForm = (words : List ℕ) (word value : ℕ) → IsImage words → IsWord value → Takes (form_of words) word value → IsAlike words (slice_set words word value)

-- so do further words, up to 65,536 in all
abbrev pub LengthKeepsTheForm : Type 0
LengthKeepsTheForm = (words more : List ℕ) → IsImage words → All IsWord more → length (words ++ more) ≤ 65536 → IsAlike words (words ++ more)

-- and another generation
abbrev pub GenerationKeepsTheForm : Type 0
GenerationKeepsTheForm = (words : List ℕ) (n : ℕ) → IsImage words → IsWord n → IsAlike words (slice_set (slice_set words 1 n) 2 n)

-- further words leave an image that says the same, generation and contents too
abbrev pub LengthKeepsTheLayout : Type 0
LengthKeepsTheLayout = (words more : List ℕ) (layout : Layout) → IsImage words → length (words ++ more) ≤ 65536 → Says words layout → Says (words ++ more) layout

-- The form of words is what they say but the generation and the contents of the values
pub record IsFormOf (form : Form) (layout : Layout) : Type 0 where
  pub version : form.version ≡ layout.version
  pub flags : form.flags ≡ layout.flags
  pub pid : form.pid ≡ layout.pid
  pub cluster : form.cluster ≡ layout.cluster
  pub indoms : form.indoms ≡ layout.indoms
  pub metrics : form.metrics ≡ layout.metrics
  pub subjects : form.subjects ≡ map (λ row. (row.item, row.instance)) layout.values
  pub strings : form.strings ≡ layout.strings

abbrev pub FormIsSaid : Type 0
FormIsSaid = (words : List ℕ) (layout : Layout) → Says words layout → IsFormOf (form_of words) layout

-- the texts with their offsets are the form's strings, and its offsets
abbrev pub TextsAreTheForms : Type 0
TextsAreTheForms = (words : List ℕ) → (map (λ text. text.0) (texts_of words) ≡ (form_of words).offsets) × (map (λ text. text.1) (texts_of words) ≡ (form_of words).strings)

-- the content that a value word of a kind holds: the number, or the text of the string at that offset
abbrev pub content_of_kind : List ℕ → Kind → ℕ → Content
content_of_kind words kinds.Text number = Choice (string_text words number)
content_of_kind words _ number = Number number

-- what a value word holds is the content of its value
abbrev pub SlotHoldsTheContent : Type 0
SlotHoldsTheContent = (words : List ℕ) (slot : Slot) → IsImage words → Contains (slots_of words) slot
    → (row : ValueRow) × Contains (values_of words) row × (row.item ≡ slot.item) × (unwrap_or row.instance (negsuc 0) ≡ slot.instance)
    × (row.content ≡ content_of_kind words slot.kind (slice_index words slot.word))

-- a value word of an image is that of a value, and holds its content
pub record HasItsSlot (words : List ℕ) (row : ValueRow) : Type 0 where
  pub slot : Slot
  pub among : Contains (slots_of words) slot
  pub item : slot.item ≡ row.item
  pub instance : slot.instance ≡ unwrap_or row.instance (negsuc 0)
  pub holds : row.content ≡ content_of_kind words slot.kind (slice_index words slot.word)

abbrev pub HasSlot : List ℕ → ValueRow → Content → Type 0
HasSlot words row (Number number) = HasItsSlot words row
HasSlot words row (Choice text) = HasItsSlot words row
HasSlot words row (Raw number extra) = Unit {0}

-- each value of a kind that has a value word has its slot
abbrev pub ValuesHaveSlots : Type 0
ValuesHaveSlots = (words : List ℕ) (row : ValueRow) → IsImage words → Contains (values_of words) row → HasSlot words row row.content
