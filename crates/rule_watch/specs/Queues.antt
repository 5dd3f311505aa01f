-- What a queue keeps of a window's values: those that are not above a later one.
use Rattle.std.specs.Prelude.{ℤ, pos, Bool, false, int_lt, int_le, if◌then◌else◌, List, [], ◌∷◌}
use Rattle.std.specs.Ordering.{int_eq}
use Rattle.std.specs.List.{list_all}

abbrev pub minima : List ℤ → List ℤ
minima [] = []
minima (x ∷ xs) = if list_all (int_le x) xs then x ∷ minima xs else minima xs

-- the first number, or 0
abbrev pub first_of : List ℤ → ℤ
first_of [] = pos 0
first_of (x ∷ xs) = x

-- the last number, or 0
abbrev pub last_of : List ℤ → ℤ
last_of [] = pos 0
last_of (x ∷ []) = x
last_of (x ∷ y ∷ ys) = last_of (y ∷ ys)

abbrev pub first_is : ℤ → List ℤ → Bool
first_is n [] = false
first_is n (x ∷ xs) = int_eq x n

abbrev pub ends_above : ℤ → List ℤ → Bool
ends_above n [] = false
ends_above n (x ∷ xs) = int_lt n (last_of (x ∷ xs))

-- without the numbers at the end that are above
abbrev pub trimmed : ℤ → List ℤ → List ℤ
trimmed n [] = []
trimmed n (x ∷ xs) = if list_all (int_lt n) (x ∷ xs) then [] else x ∷ trimmed n xs
