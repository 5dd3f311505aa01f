-- An image as layout text: the lines of what it says.
use Rattle.std.specs.Prelude.{ℕ, List}
use Rattle.mmv_layout.specs.Rows.{layout_of}
use Rattle.text_lines.specs.Whole.{layout_text}

unfoldable pub dump_of : List ℕ → List ℕ
dump_of words = layout_text (layout_of words)
