-- Lifting an image to version 2: the one spelling, in version 2, of what the image says. Its strings stand first, in their
-- order, and behind them those that names need; numbers keep all bits of their value fields, and the value field of a
-- string value is 0.
use Rattle.std.specs.Prelude.{◌≡◌, ℕ, ◌≤◌, nat_le, if◌then◌else◌, min, List, ◌++◌, map, length, Result, Ok, Err}
use Rattle.std.specs.List.{flat_map}
use Rattle.mmv_layout.specs.declared.fault.ImageFault.{ImageFault}
use Rattle.mmv_layout.specs.declared.fault.ImageFault.TheVariants.{TooLarge}
use Rattle.mmv_layout.specs.declared.rows.Layout.{Layout}
use Rattle.mmv_layout.specs.Images.{IsImage}
use Rattle.mmv_layout.specs.Rows.{layout_of}
use Rattle.mmv_writer.specs.Draft.{IsDraft}
use Rattle.mmv_writer.specs.Spelling.{with_missing, image_words}

-- a layout as one of version 2
abbrev pub in_version_2 : Layout → Layout
in_version_2 layout = record layout { version = 2 }

-- the words of version 2 that say what an image says
unfoldable pub lifted_words : List ℕ → List ℕ
lifted_words words = image_words (in_version_2 (layout_of words))

-- what lifting an image gives: these words, where they are at most 65,536
unfoldable pub lifted : List ℕ → Result (List ℕ) ImageFault
lifted words =
    if nat_le (length (lifted_words words)) 65536 then Ok (lifted_words words) else
    Err (TooLarge (min (length (lifted_words words)) 18446744073709551615))

-- The laws

-- the rows of a draft meet the rules of version 2, whatever its version
abbrev pub DraftsAreOfVersion2 : Type 0
DraftsAreOfVersion2 = (draft : Layout) → IsDraft draft → IsDraft (in_version_2 draft)

-- the names of all instances, domain by domain, and those of all metrics
abbrev pub names_in : Layout → List (List ℕ)
names_in layout = flat_map (λ row. map (λ instance. instance.1) row.instances) layout.indoms ++ map (λ row. row.name) layout.metrics

-- the lifted image says what the image said, but for the version, and for the names behind the strings that weren't among them
abbrev pub LiftedSaysTheLayout : Type 0
LiftedSaysTheLayout =
    (words : List ℕ) → IsImage words → length (lifted_words words) ≤ 65536
    → layout_of (lifted_words words) ≡ record (layout_of words) { version = 2; strings = with_missing (layout_of words).strings (names_in (layout_of words)) }
