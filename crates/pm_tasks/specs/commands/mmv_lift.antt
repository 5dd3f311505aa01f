-- `mmv-lift` reads an image and gives the image of version 2 that says its layout. It refuses what `mmv-dump` does, and an image whose
-- new words would be too many.
use Rattle.std.specs.Prelude.{ℕ, List, Option, Result, Ok, Err}
use Rattle.mmv_layout.specs.declared.fault.ImageFault.{ImageFault}
use Rattle.mmv_layout.specs.Faults.{image_of}
use Rattle.mmv_writer.specs.Lifting.{lifted}
use Rattle.pm_print.specs.Bytes.{bytes_of}
use Rattle.pm_words.specs.declared.refusal.Refusal.{Refusal}
use Rattle.pm_words.specs.Inputs.{image_refusal, made_of}
use Rattle.pm_words.specs.Meaning.{Meaning, converts}

-- what is read is lifted
abbrev pub lifted_of : Result (List ℕ) ImageFault → Result (List ℕ) ImageFault
lifted_of (Ok words) = lifted words
lifted_of (Err fault) = Err fault

abbrev pub refuses : List ℕ → Option Refusal
refuses input = image_refusal (lifted_of (image_of input))

abbrev pub makes : List ℕ → List ℕ
makes input = made_of bytes_of (lifted_of (image_of input))

abbrev pub mmv_lift : Meaning
mmv_lift = converts refuses makes
