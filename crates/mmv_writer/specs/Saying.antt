-- What the spelling of a draft says.
use Rattle.std.specs.Prelude.{◌≤◌, length}
use Rattle.mmv_layout.specs.Says.{Says}
use Rattle.mmv_layout.specs.declared.rows.Layout.{Layout}
use Rattle.mmv_writer.specs.Draft.{IsDraft}
use Rattle.mmv_writer.specs.Spelling.{all_strings, image_words}

-- a draft with the strings that it lacked
abbrev pub with_all_strings : Layout → Layout
with_all_strings draft = record draft { strings = all_strings draft }

-- the spelling of a draft that has at most 65,536 words says the draft, with all its strings
abbrev pub DraftsAreSaid : Type 0
DraftsAreSaid = (draft : Layout) → IsDraft draft → length (image_words draft) ≤ 65536 → Says (image_words draft) (with_all_strings draft)
