-- Why no image is made of a draft.
use Rattle.std.specs.Prelude.{◌≡◌, ◌<◌, ◌⊎◌, length, min}
use Rattle.mmv_layout.specs.declared.rows.Layout.{Layout}
use Rattle.mmv_writer.specs.declared.fault.BuildFault.{BuildFault}
use Rattle.mmv_writer.specs.declared.fault.BuildFault.TheVariants.{TooLarge, NoMemory}
use Rattle.mmv_writer.specs.Spelling.{image_words}

-- the spelling has too many words, and the fault their number, or memory was refused
abbrev pub IsTooLarge : Layout → BuildFault → Type 0
IsTooLarge draft fault =
    (fault ≡ NoMemory) ⊎ ((65536 < length (image_words draft)) × (fault ≡ TooLarge (min (length (image_words draft)) 18446744073709551615)))
