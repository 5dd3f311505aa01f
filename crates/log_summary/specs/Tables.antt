-- What values come to, by metric and instance, in the order in which these are first seen.
use Rattle.std.specs.Prelude.{ℕ, ℤ, Bool, ◌&&◌, nat_eq, List, [], Option, Some, None, fold}
use Rattle.std.specs.Ordering.{int_eq}
use Rattle.std.specs.Map.{lookup}
use Rattle.indexmap.specs.IndexMap.{insert_entry}
use Rattle.log_summary.specs.declared.tally.Tally.{Tally}
use Rattle.log_summary.specs.Tallies.{single, joined}
use Rattle.log_summary.specs.Values.{Value}

-- a metric and an instance
abbrev pub Key : Type 0
Key = ℕ × ℤ

abbrev pub same_key : Key → Key → Bool
same_key a b = nat_eq a.0 b.0 && int_eq a.1 b.1

abbrev pub Row : Type 0
Row = Key × Tally

abbrev pub Rows : Type 0
Rows = List Row

abbrev pub joined_to : Option Tally → Tally → Tally
joined_to None b = b
joined_to (Some a) b = joined a b

-- what was counted of an instance, behind what the rows have of it
abbrev pub put : Rows → Row → Rows
put rows row = insert_entry same_key rows row.0 (joined_to (lookup (same_key row.0) rows) row.1)

-- a value alone
abbrev pub row_of : Value → Row
row_of v = ((v.metric, v.instance), single v.number v.moment)

-- one value more
abbrev pub counted : Rows → Value → Rows
counted rows v = put rows (row_of v)

-- what values come to
abbrev pub table_of : List Value → Rows
table_of values = fold counted [] values

-- one table behind another
abbrev pub merged : Rows → Rows → Rows
merged rows others = fold put rows others
