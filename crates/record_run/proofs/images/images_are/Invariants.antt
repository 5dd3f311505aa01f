-- The images so far are images, of words of 64 bits.
use Rattle.std.specs.Prelude.{ℕ, ◌<◌, All, List, get_or}
use Rattle.region_core.specs.Shape.{IsWord}
use Rattle.region_words.specs.Images.{mmv}
use Rattle.record_run.proofs.images.images_are.Given as goal

-- so it is of the first n
pub record AreSoFar (images : List (List ℕ × List ℕ)) (n : ℕ) : Type 0 where
  pub are_images : (k : ℕ) (d : List ℕ × List ℕ) → k < n → mmv.IsImage (get_or images k d).1
  pub of_words : (k : ℕ) (d : List ℕ × List ℕ) → k < n → All IsWord (get_or images k d).1

abbrev pub invariant-loop-image : goal.invariant-loop-image
invariant-loop-image l = AreSoFar l.script.images l.image-index
