-- What a search through a list finds.
use Rattle.std.proofs.Common.{◌≡◌, Bool, true, false, List, [], ◌∷◌, map, Some, refl, cond}
use Rattle.std.specs.Prelude.{option_map}
use Rattle.std.specs.List.{find}

-- among what a function gives of each, that of the first that passes is found
pub found_by : {X Y : Type 0} (f : X → Y) (test : Y → Bool) (xs : List X) → option_map f (find (λ x. test (f x)) xs) ≡ find test (map f xs)
found_by f test [] = refl
found_by {X = X} {Y = Y} f test (x ∷ xs) = here (test (f x)) (found_by f test xs)
  where
    here : (b : Bool) → option_map f (find (λ y. test (f y)) xs) ≡ find test (map f xs)
        → option_map f (cond b (Some x) (find (λ y. test (f y)) xs)) ≡ cond b (Some (f x)) (find test (map f xs))
    here true later = refl
    here false later = later
