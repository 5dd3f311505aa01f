-- An image as bytes: its words in order, the low byte of each first.
use Rattle.std.specs.Prelude.{ℕ, List}
use Rattle.std.specs.List.{flat_map}
use Rattle.std.specs.Int.{w64, to_le_bytes}

unfoldable pub bytes_of : List ℕ → List ℕ
bytes_of words = flat_map (λ word. to_le_bytes w64 word) words
