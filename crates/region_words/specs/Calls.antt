-- What the calls of a region of memory mapped values say beside those of the rule.
use Rattle.std.specs.Prelude.{◌≡◌, ℕ, List, Contains, map}
use Rattle.pcp_base.specs.declared.kind.Kind.{Kind}
use Rattle.pcp_base.specs.declared.kind.Kind.TheVariants.{I32, U32, I64, U64}
use Rattle.mmv_layout.specs.declared.rows.Slot.{Slot}
use Rattle.mmv_layout.specs.Form.{Form, form_of, slots_of, texts_of}
use Rattle.region_rule.specs.declared.view.View.{View}
use Rattle.region_rule.specs.Views.{now}
use Rattle.region_rule.specs.Calls.{TakesValue, TakesAll}
use Rattle.region_rule.specs.Reads.{Reads, ReadsInside}
use Rattle.region_words.specs.Images.{mmv}

-- the form of what a pass has seen; while it is inside, it is the region's
abbrev pub form_seen : View → Form
form_seen v = form_of (now v).words

-- loads alone
abbrev pub Loads : View → View → Type 0
Loads v w = (found : List (ℕ × ℕ)) × Reads mmv v found w

-- the kinds whose value words hold a number
abbrev pub IsNumber : Kind → Type 0
IsNumber I32 = Unit {0}
IsNumber U32 = Unit {0}
IsNumber I64 = Unit {0}
IsNumber U64 = Unit {0}
IsNumber _ = ⊥

-- the value word of a number takes every value
abbrev pub NumbersTakeAll : Type 0
NumbersTakeAll = (v : View) (slot : Slot) → Contains (form_seen v).slots slot → IsNumber slot.kind → TakesAll mmv v slot.word

-- and each value word takes the offset of a string
abbrev pub SlotsTakeOffsets : Type 0
SlotsTakeOffsets = (v : View) (slot : Slot) (offset : ℕ) → Contains (form_seen v).slots slot → Contains (form_seen v).offsets offset → TakesValue mmv v slot.word offset

-- words that were loaded inside are an image that has the slots and the strings of the form of what was seen
abbrev pub WordsTellTheForm : Type 0
WordsTellTheForm = (v w : View) (words : List ℕ) → ReadsInside mmv v words w → (slots_of words ≡ (form_seen w).slots) × (map (λ (text : ℕ × List ℕ). text.0) (texts_of words) ≡ (form_seen w).offsets)
