-- bytes with other ones in their place, from a byte on
use Rattle.std.specs.Prelude.{ℕ, ◌+◌, List, ◌++◌, length, take, drop}

abbrev pub over : List ℕ → ℕ → List ℕ → List ℕ
over out at text = take at out ++ (text ++ drop (at + length text) out)
