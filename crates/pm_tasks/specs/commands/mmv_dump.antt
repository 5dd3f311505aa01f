-- `mmv-dump` reads an image and gives the layout text of it.
use Rattle.std.specs.Prelude.{ℕ, List, Option}
use Rattle.mmv_layout.specs.Faults.{image_of}
use Rattle.pm_print.specs.Dumps.{dump_of}
use Rattle.pm_words.specs.declared.refusal.Refusal.{Refusal}
use Rattle.pm_words.specs.Inputs.{image_refusal, made_of}
use Rattle.pm_words.specs.Meaning.{Meaning, converts}

abbrev pub refuses : List ℕ → Option Refusal
refuses input = image_refusal (image_of input)

abbrev pub makes : List ℕ → List ℕ
makes input = made_of dump_of (image_of input)

abbrev pub mmv_dump : Meaning
mmv_dump = converts refuses makes
