-- What the definitions of this crate say of those of the grammar.
use Rattle.std.specs.Prelude.{◌≡◌, ℕ, List, is_none}
use Rattle.mmv_layout.specs.Images.{is_image}
use Rattle.mmv_layout.specs.Faults.{image_fault}

-- what is looked at entry by entry is what is looked at kind by kind: words are an image where they have no fault
abbrev pub ImagesAreGood : Type 0
ImagesAreGood = (words : List ℕ) → is_image words ≡ is_none (image_fault words)
