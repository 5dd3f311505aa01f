-- A line of a text says what its bytes say.
use Rattle.std.proofs.Common.{◌≡◌, ℕ, List, [], ◌∷◌, ◌++◌, ap}
use Rattle.text_lines.specs.LayoutLines.{line_of}
use Rattle.text_lines.proofs.Feeds.{fed}
use Rattle.mmv_writer.specs.Reading.{full_line_of, said_by}

pub full_line : (text : List ℕ) → full_line_of (text ++ 10 ∷ []) ≡ line_of text
unfolding full_line_of
full_line text = ap said_by (fed text)
