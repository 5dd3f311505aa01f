-- What texts, drafts and images say of each other.
use Rattle.std.specs.Prelude.{◌≡◌, ℕ, ◌<◌, ◌≤◌, List, length, All, Some, Ok}
use Rattle.mmv_layout.specs.declared.rows.ValueRow.{ValueRow}
use Rattle.mmv_layout.specs.declared.rows.Content.{Content}
use Rattle.mmv_layout.specs.declared.rows.Content.TheVariants.{Number, Choice, Raw}
use Rattle.mmv_layout.specs.declared.rows.Layout.{Layout}
use Rattle.mmv_layout.specs.Rows.{layout_of}
use Rattle.text_lines.specs.Contents.{content_of, written_of}
use Rattle.text_lines.specs.Whole.{kind_of_item, layout_text}
use Rattle.mmv_writer.specs.Spelling.{image_words}
use Rattle.mmv_writer.specs.Draft.{Each, IsDraft}
use Rattle.mmv_writer.specs.Saying.{with_all_strings}
use Rattle.mmv_writer.specs.Reading.{text_draft, text_image}

abbrev pub IsByte : ℕ → Type 0
IsByte b = b < 256

-- an image says again what the text that it was made of said, with all its strings
abbrev pub MadeTextIsDumped : Type 0
MadeTextIsDumped =
    (bytes : List ℕ) (draft : Layout) → All IsByte bytes → text_draft bytes ≡ Ok draft → length (image_words draft) ≤ 65536
    → (layout_of (image_words draft) ≡ with_all_strings draft) × (layout_text (layout_of (image_words draft)) ≡ layout_text (with_all_strings draft))

-- the fields of a value have 64 bits
abbrev pub HasFields : Content → Type 0
HasFields (Number n) = n < 18446744073709551616
HasFields (Choice text) = Unit {0}
HasFields (Raw value extra) = (value < 18446744073709551616) × (extra < 18446744073709551616)

-- a value of which what is written is read as its content: a number in the range of its metric's kind
pub record IsInRange (draft : Layout) (row : ValueRow) : Type 0 where
  pub fields : HasFields row.content
  pub read : content_of (kind_of_item row.item draft.metrics) (written_of (kind_of_item row.item draft.metrics) row.content) ≡ Some row.content

-- a draft whose numbers have the bits and are in the ranges that a text has for them
pub record IsWrittenDraft (draft : Layout) : Type 0 where
  pub rows : IsDraft draft
  pub generation : draft.generation < 18446744073709551616
  pub values : Each (IsInRange draft) draft.values

-- the text of a draft is read as that draft
abbrev pub WrittenTextIsRead : Type 0
WrittenTextIsRead = (draft : Layout) → IsWrittenDraft draft → text_draft (layout_text draft) ≡ Ok draft

-- the text of a draft that has all its strings makes the draft's image, and what that says is written as this text
abbrev pub TextComesBack : Type 0
TextComesBack =
    (draft : Layout) → IsWrittenDraft draft → with_all_strings draft ≡ draft → length (image_words draft) ≤ 65536
    → (text_image (layout_text draft) ≡ Ok (image_words draft)) × (layout_text (layout_of (image_words draft)) ≡ layout_text draft)
