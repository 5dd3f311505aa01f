-- What the definitions of this crate say together.
use Rattle.std.specs.Prelude.{◌≡◌, ℕ, ◌<◌, ◌^◌, List, All, Ok}
use Rattle.mmv_layout.specs.Faults.{image_of}
use Rattle.mmv_layout.specs.Images.{IsImage}
use Rattle.pm_print.specs.Bytes.{bytes_of}

-- the bytes of an image are read as this image
abbrev pub BytesAreTheImage : Type 0
BytesAreTheImage = (words : List ℕ) → IsImage words → All (λ word. word < 2 ^ 64) words → image_of (bytes_of words) ≡ Ok words
