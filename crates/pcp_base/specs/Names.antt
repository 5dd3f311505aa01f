-- Names of metrics (PCPIntro(1)): components joined by `.`, as `mmv.app.hits`.
use Rattle.std.specs.Prelude.{◌≡◌, ℕ, ◌<◌, Bool, true, false, if◌then◌else◌, ◌&&◌, ◌||◌, ◌==◌, nat_le, IsTrue, List, [], ◌∷◌, length}
use Rattle.std.specs.List.{join_with_byte, list_all}

-- A to Z or a to z
abbrev pub is_letter : ℕ → Bool
is_letter b = (nat_le 65 b && nat_le b 90) || (nat_le 97 b && nat_le b 122)

-- a letter, a digit or `_`
abbrev pub is_name_byte : ℕ → Bool
is_name_byte b = is_letter b || ((nat_le 48 b && nat_le b 57) || b == 95)

-- a component starts with a letter and continues with letters, digits or `_`
abbrev pub IsComponent : List ℕ → Type 0
IsComponent [] = ⊥
IsComponent (b ∷ bs) = IsTrue (is_letter b) × IsTrue (list_all is_name_byte bs)

-- the same as a test
abbrev pub spells_component : List ℕ → Bool
spells_component [] = false
spells_component (b ∷ bs) = is_letter b && list_all is_name_byte bs

-- each of them is a component
abbrev pub AreComponents : List (List ℕ) → Type 0
AreComponents [] = Unit {0}
AreComponents (part ∷ parts) = IsComponent part × AreComponents parts

-- one or more components joined by `.`
abbrev pub IsName : List ℕ → Type 0
IsName bytes = (parts : List (List ℕ)) × (0 < length parts) × AreComponents parts × (bytes ≡ join_with_byte 46 parts)

-- the same as a test: bytes spell a name, read from the start of a component or from within one
abbrev pub spells : Bool → List ℕ → Bool
spells true [] = false
spells false [] = true
spells true (b ∷ bs) = is_letter b && spells false bs
spells false (b ∷ bs) = if b == 46 then spells true bs else (is_name_byte b && spells false bs)
