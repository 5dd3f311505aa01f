-- The values of a row by the names of their metrics. Each name that rules speak of has a number, and a row's values of that name
-- stand in the group of this number.
use Rattle.std.specs.Prelude.{◌≡◌, ℕ, ℤ, List, [], map, Option, Some, None, bytes_eq, position, slice_get}
use Rattle.std.specs.Global.{Vec}
use Rattle.std.specs.List.{All, filter}
use Rattle.std.specs.Ordering.{int_eq}
use Rattle.rule_watch.specs.Rows.{Row, is_of}
use Rattle.rule_watch.specs.Windows.{IsValue}

-- the instances and numbers of one metric's values
abbrev pub Group : Type 0
Group = List (ℤ × ℤ)

-- those of a row
abbrev pub group_of : List ℕ → Row → Group
group_of name row = map (λ entry. (entry.1, entry.2)) (filter (is_of name) row)

-- the numbers of one instance
abbrev pub numbers_of : ℤ → Group → List ℤ
numbers_of instance values = map (λ v. v.1) (filter (λ v. int_eq v.0 instance) values)

abbrev pub AreNumbers : Group → Type 0
AreNumbers values = All (λ v. IsValue v.1) values

-- names, and of one row a group for each
pub record Grouped : Type 0 where
  pub names : List (List ℕ)
  pub groups : List Group

abbrev pub group_or_none : Option Group → Group
group_or_none None = []
group_or_none (Some group) = group

abbrev pub group_at : List Group → ℕ → Group
group_at groups number = group_or_none (slice_get groups number)

abbrev pub AreAllNumbers : List Group → Type 0
AreAllNumbers groups = (k : ℕ) → AreNumbers (group_at groups k)

-- the group of each name has the values that a row has of it
abbrev pub AreGroups : List (List ℕ) → Row → List Group → Type 0
AreGroups names row groups = (name : List ℕ) (k : ℕ) → position (bytes_eq name) names ≡ Some k → group_at groups k ≡ group_of name row

-- the names so far keep their numbers
abbrev pub KeepsNumbers : List (List ℕ) → List (List ℕ) → Type 0
KeepsNumbers old new = (name : List ℕ) (k : ℕ) → position (bytes_eq name) old ≡ Some k → position (bytes_eq name) new ≡ Some k

abbrev pub names_in : List (Vec ℕ) → List (List ℕ)
names_in keys = map (λ key. key.items) keys

abbrev pub groups_in : List (Vec (ℤ × ℤ)) → List Group
groups_in groups = map (λ group. group.items) groups
