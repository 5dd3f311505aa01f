-- The port that the words of `serve PORT ..` and `pull PORT ..` name.
use Rattle.std.specs.Prelude.{ℕ, List, [], ◌∷◌, Option, None}
use Rattle.pm_words.specs.CommandLine.{number_in}

abbrev pub port_of : List (List ℕ) → Option ℕ
port_of [] = None
port_of (name ∷ []) = None
port_of (name ∷ word ∷ words) = number_in 1 65535 word
