-- Which entry of an index is the last before a moment. Stamps need not rise.
use Rattle.std.specs.Prelude.{◌≡◌, ℕ, ◌<◌, ◌≤◌, List, ◌∷◌, ◌++◌, length}
use Rattle.std.specs.List.{AllByRecursion}
use Rattle.pcp_base.specs.Time.{Moment, microseconds}
use Rattle.pcp_model.specs.declared.records.Entry.{Entry}

abbrev pub IsAfter : Moment → Entry → Type 0
IsAfter t e = microseconds t < microseconds e.stamp

abbrev pub NotAfter : Moment → Entry → Type 0
NotAfter t e = microseconds e.stamp ≤ microseconds t

abbrev pub Before : Moment → Entry → Type 0
Before t e = microseconds e.stamp < microseconds t

abbrev pub NotBefore : Moment → Entry → Type 0
NotBefore t e = microseconds t ≤ microseconds e.stamp

-- An entry stands at a position and is such a one; each behind it is of the others.
pub record IsLast (Such Other : Entry → Type 0) (es : List Entry) (found : ℕ × Entry) : Type 0 where
  pub front : List Entry
  pub behind : List Entry
  pub is : es ≡ front ++ found.1 ∷ behind
  pub position : found.0 ≡ length front
  pub such : Such found.1
  pub others : AllByRecursion Other behind
