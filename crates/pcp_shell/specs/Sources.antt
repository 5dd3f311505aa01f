-- The bases of the two sources that the words of `extract BASE1 BASE2 ..` name, and that which the words of `export BASE2` name.
use Rattle.std.specs.Prelude.{ℕ, List, [], ◌∷◌, Option, Some, None}

abbrev pub sources_of : List (List ℕ) → Option (List ℕ × List ℕ)
sources_of [] = None
sources_of (name ∷ []) = None
sources_of (name ∷ first ∷ []) = None
sources_of (name ∷ first ∷ second ∷ words) = Some (first, second)

abbrev pub target_of : List (List ℕ) → Option (List ℕ)
target_of [] = None
target_of (name ∷ []) = None
target_of (name ∷ target ∷ words) = Some target
