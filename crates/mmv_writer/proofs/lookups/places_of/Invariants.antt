-- The map has the first of the domains that the loop has passed.
use Rattle.std.proofs.Common.{◌≡◌, ℕ, ◌==◌, min, take, length, sum_by}
use Rattle.std.specs.List.{position}
use Rattle.std.specs.Ordering.{nat_cmp}
use Rattle.std.specs.BTreeMap.{get}
use Rattle.mmv_writer.specs.Tables.{IsTold}
use Rattle.mmv_writer.proofs.lookups.places_of.Given as goal

abbrev pub invariant-loop-row : goal.invariant-loop-row
invariant-loop-row l = record {
  count : l.at ≡ l.row-index;
  behind : l.before ≡ min (sum_by (λ row. length row.instances) (take l.row-index l.rows)) 18446744073709551615;
  index : (serial : ℕ) → IsTold l.rows (get nat_cmp l.places serial) (position (λ row. row.serial == serial) (take l.row-index l.rows));
}
