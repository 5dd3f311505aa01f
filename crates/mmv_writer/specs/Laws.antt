-- What the definitions of this crate say together.
use Rattle.std.specs.Prelude.{◌≡◌, ℕ, ◌≤◌, true, List, length}
use Rattle.mmv_layout.specs.Images.{is_image, IsImage}
use Rattle.mmv_layout.specs.declared.rows.Layout.{Layout}
use Rattle.mmv_layout.specs.Rows.{layout_of}
use Rattle.mmv_writer.specs.Draft.{IsDraft}
use Rattle.mmv_writer.specs.Spelling.{image_words}

-- the spelling of a draft that has at most 65,536 words is an image
abbrev pub DraftsAreImages : Type 0
DraftsAreImages = (draft : Layout) → IsDraft draft → length (image_words draft) ≤ 65536 → is_image (image_words draft) ≡ true

-- what an image says is a draft: its rows meet the rules for rows
abbrev pub LayoutsAreDrafts : Type 0
LayoutsAreDrafts = (words : List ℕ) → IsImage words → IsDraft (layout_of words)
