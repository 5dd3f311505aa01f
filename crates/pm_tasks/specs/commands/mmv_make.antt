-- `mmv-make` reads a layout text and gives the image of it.
use Rattle.std.specs.Prelude.{ℕ, List, Option}
use Rattle.mmv_writer.specs.Reading.{text_image}
use Rattle.pm_print.specs.Bytes.{bytes_of}
use Rattle.pm_words.specs.declared.refusal.Refusal.{Refusal}
use Rattle.pm_words.specs.Inputs.{text_refusal, made_of}
use Rattle.pm_words.specs.Meaning.{Meaning, converts}

abbrev pub refuses : List ℕ → Option Refusal
refuses input = text_refusal (text_image input)

abbrev pub makes : List ℕ → List ℕ
makes input = made_of bytes_of (text_image input)

abbrev pub mmv_make : Meaning
mmv_make = converts refuses makes
