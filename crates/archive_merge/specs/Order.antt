-- How stamps follow one another.
use Rattle.std.specs.Prelude.{◌<◌, ◌≤◌, Bool, nat_lt, filter, List, [], ◌∷◌}
use Rattle.std.specs.List.{AllByRecursion}
use Rattle.pcp_base.specs.Time.{Moment, microseconds}
use Rattle.pcp_base.specs.declared.result.PmResult.{PmResult}

-- a moment is behind another
abbrev pub is_behind : Moment → Moment → Bool
is_behind t s = nat_lt (microseconds t) (microseconds s)

abbrev pub Behind : Moment → Moment → Type 0
Behind t s = microseconds t < microseconds s

abbrev pub NotBefore : Moment → Moment → Type 0
NotBefore t s = microseconds t ≤ microseconds s

-- the results stamped after a moment
abbrev pub later : Moment → PmResult → Bool
later t r = is_behind t r.stamp

abbrev pub after : Moment → List PmResult → List PmResult
after t results = filter (later t) results

-- each stamp is behind those before it
abbrev pub Rising : List Moment → Type 0
Rising [] = Unit {0}
Rising (s ∷ stamps) = AllByRecursion (Behind s) stamps × Rising stamps

-- no result is stamped before a moment, or all are behind it
abbrev pub NoneBefore : Moment → List PmResult → Type 0
NoneBefore t results = AllByRecursion (λ r. NotBefore t r.stamp) results

abbrev pub AllBehind : Moment → List PmResult → Type 0
AllBehind t results = AllByRecursion (λ r. Behind t r.stamp) results

-- no result is stamped before the one before it
abbrev pub Rises : List PmResult → Type 0
Rises [] = Unit {0}
Rises (r ∷ results) = NoneBefore r.stamp results × Rises results
