-- Names as bytes: their order, and when one continues another (pmns(5)).
use Rattle.std.specs.Prelude.{ℕ, Bool, List, [], ◌∷◌, ◌++◌, nat_eq}
use Rattle.std.specs.declared.cmp.Ordering.{Ordering}
use Rattle.std.specs.Ordering.{nat_cmp, is_eq, is_lt}
use Rattle.std.specs.Cmp.Lexicographic.{slice_cmp}
use Rattle.std.specs.List.{starts_with}

-- the order of bytes: the first that differ decide, and else the shorter is less
abbrev pub byte_order : List ℕ → List ℕ → Ordering
byte_order a b = slice_cmp nat_cmp a b

abbrev pub is_same : List ℕ → List ℕ → Bool
is_same a b = is_eq (byte_order a b)

abbrev pub is_before : List ℕ → List ℕ → Bool
is_before a b = is_lt (byte_order a b)

-- a name continues another where it begins with that name and a `.`
abbrev pub continues : List ℕ → List ℕ → Bool
continues name other = starts_with nat_eq name (other ++ 46 ∷ [])
