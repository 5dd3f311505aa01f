-- The metrics of a region by item.
use Rattle.std.specs.Prelude.{◌≡◌, ℕ, suc, ◌==◌, if◌then◌else◌, List, [], ◌∷◌, Option, Some, None}
use Rattle.std.specs.Ordering.{nat_cmp}
use Rattle.std.specs.BTreeMap.{BTreeMap, get}
use Rattle.mmv_layout.specs.declared.rows.MetricRow.{MetricRow}

-- the place of an item's metric, in a list that begins with this place
abbrev pub place_from : ℕ → ℕ → List MetricRow → Option ℕ
place_from item n [] = None
place_from item n (row ∷ rows) = if row.item == item then Some n else place_from item (suc n) rows

-- a table has the place of each item's metric
abbrev pub HasPlaces : BTreeMap ℕ ℕ → List MetricRow → Type 0
HasPlaces table rows = (item : ℕ) → get nat_cmp table item ≡ place_from item 0 rows
