-- The lines of a map, as a list.
use Rattle.std.specs.Prelude.{ℕ, ℤ, List, map}
use Rattle.std.specs.Global.{Vec}
use Rattle.std.specs.BTreeMap.{BTreeMap}
use Rattle.log_summary.specs.Lines.{Line}

abbrev pub line : (Vec ℕ × ℕ × ℤ) × Vec ℕ → Line
line e = ((e.0.0.items, e.0.1, e.0.2), e.1.items)

abbrev pub listed_lines : BTreeMap (Vec ℕ × ℕ × ℤ) (Vec ℕ) → List Line
listed_lines lines = map line lines.entries
