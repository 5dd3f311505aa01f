-- The images of a script.
use Rattle.std.specs.Prelude.{List, ℕ, All}
use Rattle.region_core.specs.Shape.{IsWord}
use Rattle.region_words.specs.Images.{mmv}
use Rattle.run_script.specs.declared.script.Script.{Script}

-- each image of a script is one
abbrev pub AreImages : Script → Type 0
AreImages script = All (λ (image : List ℕ × List ℕ). mmv.IsImage image.1) script.images

-- of words of 64 bits
abbrev pub AreOfWords : Script → Type 0
AreOfWords script = All (λ (image : List ℕ × List ℕ). All IsWord image.1) script.images
