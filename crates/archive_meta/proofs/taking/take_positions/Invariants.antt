-- The positions so far and those that are left to take are all.
use Rattle.std.proofs.Common.{◌≡◌, ◌++◌, nat_eq, drop}
use Rattle.indexmap.specs.IndexMap.{get}
use Rattle.archive_meta.specs.Missing.{values_of_keys, position_from}
use Rattle.archive_meta.proofs.taking.take_positions.Given as goal

abbrev pub invariant-loop-key : goal.invariant-loop-key
invariant-loop-key l = l.positions ++ values_of_keys (get nat_eq l.left) (drop l.key-index l.keys) ≡ values_of_keys (position_from 0 l.table) l.keys
