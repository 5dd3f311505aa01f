-- Rows: the values of one sample each, by name and instance. A stream is a name and an instance; its values are those of
-- the rows that have it, in their order.
use Rattle.std.specs.Prelude.{ℕ, ℤ, Bool, ◌&&◌, List, map, bytes_eq}
use Rattle.std.specs.List.{filter, flat_map}
use Rattle.std.specs.Ordering.{int_eq}
use Rattle.rule_watch.specs.declared.rule.Condition.{Condition}
use Rattle.rule_watch.specs.Windows.{last}

abbrev pub Entry : Type 0
Entry = List ℕ × ℤ × ℤ

abbrev pub Row : Type 0
Row = List Entry

-- an entry is of the metric
abbrev pub is_of : List ℕ → Entry → Bool
is_of name entry = bytes_eq entry.0 name

-- an entry is of the stream
abbrev pub is_in : List ℕ → ℤ → Entry → Bool
is_in name instance entry = bytes_eq entry.0 name && int_eq entry.1 instance

abbrev pub values_in : List ℕ → ℤ → Row → List ℤ
values_in name instance row = map (λ entry. entry.2) (filter (is_in name instance) row)

abbrev pub values_of : List ℕ → ℤ → List Row → List ℤ
values_of name instance rows = flat_map (values_in name instance) rows

-- the instances of the metric in a row
abbrev pub instances_in : List ℕ → Row → List ℤ
instances_in name row = map (λ entry. entry.1) (filter (is_of name) row)

-- the last values of a stream, as many as a condition asks for where there are so many
abbrev pub window : List Row → Condition → ℤ → List ℤ
window rows c instance = last c.size (values_of c.name instance rows)
